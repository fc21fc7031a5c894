-- The symbols so far: those that were declared, and those that were used without a declaration.
use Rattle.std.specs.Prelude.{ℕ, zero, suc, ◌+◌, ◌==◌, Bool, not, ◌&&◌, if◌then◌else◌, bytes_eq, Option, Some, None, List, [], ◌∷◌, ◌++◌, map}
use Rattle.zm_logic.specs.Tree.{Tys, Symbol, Sense}
use Rattle.zm_logic.specs.Typing.{individual, how_many}
use Rattle.tptp_reader.specs.Raw.{Name}

pub record Entry : Type 0 where
  pub symbol : Symbol
  pub is_declared : Bool

-- numbered from 1
abbrev pub Table : Type 0
Table = List Entry

abbrev pub symbols_of : Table → List Symbol
symbols_of table = map (λ e. e.symbol) table

abbrev pub most_symbols : ℕ
most_symbols = 65536

-- how many types and terms a symbol takes together
abbrev pub arity : Symbol → ℕ
arity d = d.types + how_many d.arguments

-- a symbol with its number
pub record Numbered : Type 0 where
  pub number : ℕ
  pub symbol : Symbol

-- the first entry that passes the test, the numbers beginning at n
abbrev pub first_from : ℕ → (Entry → Bool) → Table → Option Numbered
first_from n test [] = None
first_from n test (e ∷ es) =
    if test e then Some (record { number = n; symbol = e.symbol }) else first_from (suc n) test es

-- a declared symbol is its name
abbrev pub declared_as : Name → Entry → Bool
declared_as x e = e.is_declared && bytes_eq e.symbol.name x

-- an undeclared symbol is its name with its number of arguments
abbrev pub used_as : Name → ℕ → Entry → Bool
used_as x n e = not e.is_declared && (bytes_eq e.symbol.name x && (arity e.symbol == n))

abbrev pub declared : Table → Name → Option Numbered
declared table x = first_from 1 (declared_as x) table

abbrev pub used : Table → Name → ℕ → Option Numbered
used table x n = first_from 1 (used_as x n) table

-- the name was declared or used
abbrev pub known : Table → Name → Option Numbered
known table x = first_from 1 (λ e. bytes_eq e.symbol.name x) table

-- where a symbol that is used without a declaration stands
pub data Place : Type 0 where
  formula : Place
  term : Place

abbrev pub sense_at : Place → Sense
sense_at formula = Sense.predicate
sense_at term = Sense.function individual

abbrev pub individuals_of : ℕ → Tys
individuals_of zero = Tys.none
individuals_of (suc n) = Tys.more individual (individuals_of n)

-- the symbol that the first use of a name with n arguments makes
abbrev pub undeclared : Place → Name → ℕ → Symbol
undeclared place x n = record { name = x; types = 0; arguments = individuals_of n; sense = sense_at place }

-- the table with one more entry
abbrev pub with_entry : Table → Bool → Symbol → Table
with_entry table is_declared d = table ++ record { symbol = d; is_declared = is_declared } ∷ []

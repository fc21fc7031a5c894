-- The constants that stand for a problem's symbols and premises.
use Rattle.std.specs.Prelude.{codes, ℕ, zero, suc, ◌+◌, ◌/◌, ◌%◌, nat_le, Bool, ◌||◌, cond, List, [], ◌∷◌, ◌++◌, Option, Some, None}
use Rattle.std.specs.Fmt.{decimal}
use Rattle.lp_terms.specs.Names.{is_start, is_digit}
use Rattle.zm_logic.specs.Tree.{Sense, Symbol}
use Rattle.zm_logic.specs.Typing.{symbol_at, how_many}

-- a letter, a digit or an underscore
abbrev pub is_plain : ℕ → Bool
is_plain b = is_start b || is_digit b

-- the lower case hexadecimal digit of a number below 16
abbrev pub hexadecimal : ℕ → ℕ
hexadecimal n = cond (nat_le n 9) (48 + n) (87 + n)

-- a letter, a digit or an underscore stands for itself, and any other byte is ! and two lower case hexadecimal digits
abbrev pub coded : List ℕ → List ℕ
coded [] = []
coded (b ∷ bs) = cond (is_plain b) (b ∷ coded bs) (33 ∷ hexadecimal (b / 16) ∷ hexadecimal (b % 16) ∷ coded bs)

-- t_ for a type constructor, and f_ for a predicate or a function
abbrev pub kind_prefix : Sense → List ℕ
kind_prefix Sense.constructor = codes "t_"
kind_prefix Sense.predicate = codes "f_"
kind_prefix (Sense.function r) = codes "f_"

-- the constant of a symbol: its name, and the number of its arguments, of types and terms together
abbrev pub symbol_name : Symbol → List ℕ
symbol_name d = kind_prefix d.sense ++ coded d.name ++ 95 ∷ decimal (d.types + how_many d.arguments)

abbrev pub name_of : Option Symbol → List ℕ
name_of (Some d) = symbol_name d
name_of None = []

-- the constant of a symbol's number, 0 being the type of individuals
abbrev pub constant : List Symbol → ℕ → List ℕ
constant symbols zero = codes "iota"
constant symbols (suc n) = name_of (symbol_at symbols (suc n))

-- the constant of the kept premise k, the first being 0
abbrev pub premise_name : ℕ → List ℕ
premise_name k = codes "ax_" ++ decimal k

-- Types in their places, and symbols at their arguments.
use Rattle.std.specs.Prelude.{ℕ, zero, suc, ◌==◌, Bool, false, if◌then◌else◌, Option, Some, None, Ok, Err, length, nat_lt}
use Rattle.zm_logic.specs.Tree.{Ty, Tys, Term, Terms, Form, Symbol, Sense, Binder}
use Rattle.zm_logic.specs.Typing.{individual}
use Rattle.zm_logic.specs.Opening.{type_instance, openings}
use Rattle.zm_logic.specs.Same.{same_type}
use Rattle.tptp_reader.specs.Raw.{Name, RawType, RawTypes, RawTerms}
use Rattle.tff_typing.specs.Written.{number_of_types}
use Rattle.tff_typing.specs.Scope.{Scope, Bound, look_up}
use Rattle.tff_typing.specs.Table.{Table, Numbered, Place, arity, declared, used, undeclared, with_entry, most_symbols}
use Rattle.tff_typing.specs.Fault.{Found, found_type, Fault, Outcome, ◌>>=◌}

-- a type's place takes a type variable
abbrev pub if_type : ℕ → Binder → Outcome Ty
if_type n Binder.of_type = Ok (Ty.param n)
if_type n (Binder.of_term t) = Err Fault.not_a_type

abbrev pub type_variable : Option Bound → Outcome Ty
type_variable None = Err Fault.unbound
type_variable (Some b) = if_type b.number b.binder

-- a type's place takes a constructor, a term's or a formula's place any other symbol
abbrev pub if_constructor : ℕ → Sense → Outcome ℕ
if_constructor c Sense.constructor = Ok c
if_constructor c Sense.predicate = Err Fault.not_a_type
if_constructor c (Sense.function r) = Err Fault.not_a_type

-- a name with n parts in a type's place
abbrev pub constructor_at : Option Numbered → ℕ → Outcome ℕ
constructor_at None n = Err Fault.not_a_type
constructor_at (Some d) n = if n == arity d.symbol then if_constructor d.number d.symbol.sense else Err Fault.arity

-- a type in a type's place that is no result
abbrev mutual
  pub type_in : Table → Scope → RawType → Outcome Ty
  type_in table s RawType.individual = Ok individual
  type_in table s RawType.truth = Err Fault.not_a_type
  type_in table s RawType.kind = Err Fault.not_a_type
  type_in table s (RawType.variable x) = type_variable (look_up s x)
  type_in table s (RawType.named c ts) =
      constructor_at (declared table c) (number_of_types ts) >>= λ n. types_in table s ts >>= λ us. Ok (Ty.con n us)

  pub types_in : Table → Scope → RawTypes → Outcome Tys
  types_in table s RawTypes.none = Ok Tys.none
  types_in table s (RawTypes.more t ts) =
      type_in table s t >>= λ u. types_in table s ts >>= λ us. Ok (Tys.more u us)

-- a symbol at its place, and the table with it
pub record Use : Type 0 where
  pub found : Numbered
  pub table : Table

abbrev pub if_symbol : Table → Numbered → Sense → Outcome Use
if_symbol table d Sense.constructor = Err Fault.not_a_term
if_symbol table d Sense.predicate = Ok (record { found = d; table = table })
if_symbol table d (Sense.function r) = Ok (record { found = d; table = table })

-- the table has room for one more symbol
abbrev pub new_symbol : Table → Bool → Symbol → Outcome Use
new_symbol table is_declared d =
    if nat_lt (length table) most_symbols
    then Ok (record {
      found = record { number = suc (length table); symbol = d };
      table = with_entry table is_declared d;
    })
    else Err Fault.too_many_symbols

abbrev pub used_or_new : Table → Place → Name → ℕ → Option Numbered → Outcome Use
used_or_new table place x n (Some d) = if_symbol table d d.symbol.sense
used_or_new table place x n None = new_symbol table false (undeclared place x n)

abbrev pub declared_or_used : Table → Place → Name → ℕ → Option Numbered → Outcome Use
declared_or_used table place x n (Some d) =
    if n == arity d.symbol then if_symbol table d d.symbol.sense else Err Fault.arity
declared_or_used table place x n None = used_or_new table place x n (used table x n)

-- the symbol of a name with n arguments in a term's or a formula's place
abbrev pub symbol_for : Table → Place → Name → ℕ → Outcome Use
symbol_for table place x n = declared_or_used table place x n (declared table x)

-- what an expression is by itself: a term with its type, or an atom
pub data Expression : Type 0 where
  term : (type : Ty) (tree : Term) → Expression
  atom : (symbol : ℕ) (types : Tys) (arguments : Terms) → Expression

-- a symbol at its types and arguments
abbrev pub applied : ℕ → Tys → Terms → Sense → Expression
applied f ts us Sense.constructor = Expression.atom f ts us
applied f ts us Sense.predicate = Expression.atom f ts us
applied f ts us (Sense.function r) = Expression.term (type_instance (openings ts) r) (Term.app f ts us)

-- a variable in a term's or a formula's place
abbrev pub if_term : ℕ → Binder → Outcome Expression
if_term n Binder.of_type = Err Fault.not_a_term
if_term n (Binder.of_term t) = Ok (Expression.term t (Term.eps n t))

abbrev pub term_variable : Option Bound → Outcome Expression
term_variable None = Err Fault.unbound
term_variable (Some b) = if_term b.number b.binder

-- a place that wants a type takes a term of that type
abbrev pub wanted : Ty → Expression → Outcome Term
wanted t (Expression.term u a) = if same_type u t then Ok a else Err (Fault.mismatch (found_type t) (found_type u))
wanted t (Expression.atom p ts us) = Err (Fault.mismatch (found_type t) Found.truth)

-- a formula's place takes an atom
abbrev pub as_formula : Expression → Outcome Form
as_formula (Expression.term t a) = Err (Fault.mismatch Found.truth (found_type t))
as_formula (Expression.atom p ts us) = Ok (Form.atom p ts us)

-- the first n of the parts
abbrev pub first : ℕ → RawTerms → RawTerms
first zero us = RawTerms.none
first (suc n) RawTerms.none = RawTerms.none
first (suc n) (RawTerms.more u us) = RawTerms.more u (first n us)

-- the parts after the first n
abbrev pub rest : ℕ → RawTerms → RawTerms
rest zero us = us
rest (suc n) RawTerms.none = RawTerms.none
rest (suc n) (RawTerms.more u us) = rest n us

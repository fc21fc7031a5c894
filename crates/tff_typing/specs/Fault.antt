-- The faults of typing, and results that are a tree or the first fault.
use Rattle.std.specs.Prelude.{Result, Ok, Err}
use Rattle.zm_logic.specs.Tree.{Ty, Tys}

-- what stands in a place, or is wanted there: a formula, or a term of a type
pub data Found : Type 0 where
  truth : Found
  of_type : Ty → Found

-- a type as a fault shows it: a type variable is the number of binders round its own binder
abbrev mutual
  pub shown_type : Ty → Ty
  shown_type (Ty.bound i) = Ty.bound i
  shown_type (Ty.param n) = Ty.bound n
  shown_type (Ty.meta n) = Ty.meta n
  shown_type (Ty.con c ts) = Ty.con c (shown_types ts)

  pub shown_types : Tys → Tys
  shown_types Tys.none = Tys.none
  shown_types (Tys.more t ts) = Tys.more (shown_type t) (shown_types ts)

abbrev pub found_type : Ty → Found
found_type t = Found.of_type (shown_type t)

-- what can be wrong with a statement
pub data Fault : Type 0 where
  second_conjecture : Fault
  redeclared : Fault
  too_many_symbols : Fault
  unbound : Fault
  arity : Fault
  not_a_type : Fault
  not_a_term : Fault
  mismatch : (wanted got : Found) → Fault

-- a tree, or the first fault
abbrev pub Outcome : Type 0 → Type 0
Outcome A = Result A Fault

-- the first fault counts: what comes later is looked at only where there was none
infixl 10 ◌>>=◌
abbrev pub ◌>>=◌ : {A B : Type 0} → Outcome A → (A → Outcome B) → Outcome B
(Ok x) >>= f = f x
(Err e) >>= f = Err e

-- What a check finds in a place: an answer, or why it stops.
use Rattle.std.specs.Prelude.{ℕ, List, [], ◌∷◌}
use Rattle.lp_terms.specs.Term.{Lp}
use Rattle.lp_terms.specs.Typing.{Class}

-- what a refusal says of its place
pub data Refusal : Type 0 where
  -- the type found isn't the one wanted, and their normal forms differ
  mismatch : (found wanted found_normal wanted_normal : Class) → Refusal
  -- an applied part's type has a normal form that is no product
  not_product : (found normal : Class) → Refusal
  -- the type of what stands as a type has a normal form that is no sort
  not_sort : (found normal : Class) → Refusal
  -- the type of an abstraction's body is Kind
  body_kind : Refusal
  -- the head of a rule's left side wasn't declared by def
  rule_head : Refusal

-- Why a check stops: a refusal at a place, which is a list of numbers of parts; a term from which more steps than the limit
-- can be made; or a name or variable without a type, which stands in no file.
pub data Stop : Type 0 where
  refused : (path : List ℕ) (why : Refusal) → Stop
  spent : (from : Lp) → Stop
  unbound : Stop

pub data Found (A : Type 0) : Type 0 where
  gives : A → Found A
  stops : Stop → Found A

-- the refusal of a place itself
abbrev pub refuses : {A : Type 0} → Refusal → Found A
refuses why = Found.stops (Stop.refused [] why)

-- first one, then what its answer leads to
abbrev pub and_then : {A B : Type 0} → Found A → (A → Found B) → Found B
and_then (Found.gives x) f = f x
and_then (Found.stops s) f = Found.stops s

-- a stop in the part of that number
abbrev pub in_part : ℕ → Stop → Stop
in_part i (Stop.refused path why) = Stop.refused (i ∷ path) why
in_part i (Stop.spent from) = Stop.spent from
in_part i Stop.unbound = Stop.unbound

abbrev pub part : {A : Type 0} → ℕ → Found A → Found A
part i (Found.gives x) = Found.gives x
part i (Found.stops s) = Found.stops (in_part i s)

-- a stop whose place is this one
abbrev pub at_place : Stop → Stop
at_place (Stop.refused path why) = Stop.refused [] why
at_place (Stop.spent from) = Stop.spent from
at_place Stop.unbound = Stop.unbound

abbrev pub here : {A : Type 0} → Found A → Found A
here (Found.gives x) = Found.gives x
here (Found.stops s) = Found.stops (at_place s)

-- if an answer is found, it meets P
abbrev pub IfGives : {A : Type 0} → Found A → (A → Type 0) → Type 0
IfGives (Found.gives x) P = P x
IfGives (Found.stops s) P = Unit {0}

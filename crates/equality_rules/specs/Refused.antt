-- Which binding or offer is the first that is too deep, and what is named then.
use Rattle.std.specs.Prelude.{◌≡◌, ◌<◌, ◌≤◌, Bool, cond, List, ◌∷◌, ◌++◌, Some, reverse, All, is_some}
use Rattle.zm_logic.specs.Tree.{Ty, Term, Form, Side, Symbol, differ}
use Rattle.param_store.specs.RawOffers.{Raw}
use Rattle.param_store.specs.Depth.{deepest, deepest_child}
use Rattle.unify.specs.Binding.{Binding}
use Rattle.unify.specs.Answer.{solved_depth, name_of}
use Rattle.unify.specs.Unification.{UnifiesTerms}
use Rattle.equality_rules.specs.Instances.{InstancesOf}
use Rattle.equality_rules.specs.Pairs.{Opposites, opposites, Unifies, PairOffers, SingleOffers}

-- with all bindings put in, no right side is deeper than 2,000
abbrev pub AreBounded : List Binding → Type 0
AreBounded made = All (λ b. solved_depth made b ≤ 2000) (reverse made)

-- The first binding, in the order in which they were made, whose solved right side is deeper than 2,000 names a term.
pub record IsFirstDeepBinding (made : List Binding) (u : Term) : Type 0 where
  pub before : List Binding
  pub binding : Binding
  pub after : List Binding
  pub order : reverse made ≡ before ++ binding ∷ after
  pub bounded : All (λ b. solved_depth made b ≤ 2000) before
  pub deep : 2000 < solved_depth made binding
  pub named : name_of binding ≡ u

-- what an offer acts on: an instance on the quantified formula, and any other offer on the given one
abbrev pub acted_on : Form → Raw → Form
acted_on given r = cond (is_some r.act.part) r.act.first given

-- The first offer with a child deeper than 2,000 names what it acts on.
pub record IsFirstDeepOffer (offers : List Raw) (given f : Form) : Type 0 where
  pub before : List Raw
  pub offer : Raw
  pub after : List Raw
  pub order : offers ≡ before ++ offer ∷ after
  pub bounded : deepest before ≤ 2000
  pub deep : 2000 < deepest_child offer.children
  pub named : acted_on given offer ≡ f

-- the bindings that two formulas, and that the sides of a negated equality, give are bounded
abbrev pub PairIsBounded : Form → Form → Type 0
PairIsBounded earlier later = (o : Opposites) (made : List Binding) → opposites earlier later ≡ Some o → Unifies o made → AreBounded made

abbrev pub SingleIsBounded : Form → Type 0
SingleIsBounded f = (t : Ty) (u v : Term) (made : List Binding) → f ≡ differ t u v → UnifiesTerms u v made → AreBounded made

-- a binding of the unifier is too deep, or an instance is
pub data AreRefused (symbols : List Symbol) (table : List Form) (Unifies : List Binding → Type 0) (Differ : Type 0) : Side → Type 0 where
  binding : (made : List Binding) (u : Term) → Unifies made → IsFirstDeepBinding made u
      → AreRefused symbols table Unifies Differ (Side.of_term u)
  child : (rs : List Raw) (f : Form) → ((made : List Binding) → Unifies made → AreBounded made)
      → InstancesOf symbols table Unifies Differ rs → ((given : Form) → IsFirstDeepOffer rs given f)
      → AreRefused symbols table Unifies Differ (Side.of_form f)

module _ (symbols : List Symbol) (table : List Form) (equality : Bool) where
  -- A binding of the pair is too deep, or an offer is. An offer that is no instance acts on the later formula.
  pub data PairIsRefused (earlier later : Form) : Side → Type 0 where
    binding : (o : Opposites) (made : List Binding) (u : Term) → opposites earlier later ≡ Some o → Unifies o made
        → IsFirstDeepBinding made u → PairIsRefused earlier later (Side.of_term u)
    child : (rs : List Raw) (f : Form) → PairIsBounded earlier later → PairOffers symbols table equality earlier later rs
        → IsFirstDeepOffer rs later f → PairIsRefused earlier later (Side.of_form f)

  -- the same of what a formula offers beyond its rule
  pub data SingleIsRefused (given : Form) : Side → Type 0 where
    binding : (t : Ty) (u v : Term) (made : List Binding) (w : Term) → given ≡ differ t u v → UnifiesTerms u v made
        → IsFirstDeepBinding made w → SingleIsRefused given (Side.of_term w)
    child : (rs : List Raw) (f : Form) → SingleIsBounded given → SingleOffers symbols table equality given rs
        → IsFirstDeepOffer rs given f → SingleIsRefused given (Side.of_form f)

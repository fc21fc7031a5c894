-- Branches of formulas without quantifiers, equality and parameters: what they offer is alpha and beta alone.
use Rattle.std.specs.Prelude.{ℕ, ◌+◌, ◌≤◌, List, [], ◌∷◌, ◌++◌, None, map, filter}
use Rattle.std.specs.List.{Contains}
use Rattle.zm_logic.specs.Tree.{Form}
use Rattle.zm_logic.specs.Measure.{depth}
use Rattle.zm_logic.specs.Parameter.{HasNoParameter}
use Rattle.zm_logic.specs.Truth.{IsQuantifierFree}
use Rattle.param_store.specs.RawOffers.{on, split}
use Rattle.branch.specs.BranchOffers.{Placed, split_kind}
use Rattle.branch.specs.Offers.{Child, Offer, offer_of, is_useful}

-- each formula is without quantifiers and equality, and without parameters
pub record AreQuantifierFree (branch : List Form) : Type 0 where
  pub free : (f : Form) → Contains branch f → IsQuantifierFree f
  pub parameters : (f : Form) → Contains branch f → HasNoParameter f

-- no formula is deeper than 2,000
abbrev pub AreShallow : List Form → Type 0
AreShallow branch = (f : Form) → Contains branch f → depth f ≤ 2000

-- the raw offer of an alpha or beta formula, which has this place and these children
abbrev pub split_at : ℕ → Form → List (List Form) → List Placed
split_at j f [] = []
split_at j f (c ∷ cs) =
    record { kind = split_kind (c ∷ cs); raw = record { act = on f; children = c ∷ cs }; blamed = f; later = j; earlier = None } ∷ []

-- the raw offers of alpha and beta formulas, in order, of which the first formula has place j
abbrev pub splits_from : ℕ → List Form → List Placed
splits_from j [] = []
splits_from j (f ∷ fs) = split_at j f (split f) ++ splits_from (j + 1) fs

abbrev pub splits : List Form → List Placed
splits branch = splits_from 0 branch

-- a child whose formulas are their own normal forms
abbrev pub unchanged : List Form → Child
unchanged fs = record { raw = fs; normal = fs }

abbrev pub split_offer : Placed → Offer
split_offer p = offer_of p (map unchanged p.raw.children)

-- the useful ones
abbrev pub useful_splits : List Form → List Offer
useful_splits branch = filter (is_useful branch) (map split_offer (splits branch))

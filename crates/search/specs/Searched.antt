-- What a search keeps as it goes, and what it answers.
use Rattle.std.specs.Prelude.{ℕ, ◌≡◌, ◌≤◌, ◌<◌, ◌+◌, suc, true, List, All, map, length, Option, None, Some, ◌⊎◌}
use Rattle.zm_logic.specs.Tree.{Problem}
use Rattle.zm_logic.specs.View.{symbol_tree}
use Rattle.zm_logic.specs.Truth.{refuted}
use Rattle.term_store.specs.Trees.{Tables, HasForm, form_of}
use Rattle.term_store.specs.Open.{HasRedex, redex_of}
use Rattle.branch.specs.declared.why.Why.{Why}
use Rattle.branch.specs.declared.stop.BranchStop.{BranchStop}
use Rattle.branch.specs.declared.stop.BranchStop.TheVariants as stops
use Rattle.branch.specs.Branch.{closing}
use Rattle.branch.specs.Offers.{Offer, AreOffers}
use Rattle.branch.specs.Tableau.{count, picks, is_finished}
use Rattle.branch.specs.Stopping.{Cause, StopsAt, Stopped}
use Rattle.branch.specs.State.{State, IsKept, setting, given_forms, tree}
use Rattle.branch.specs.Stepped.{AtLeaf, HasOffer, IsUnclosed}
use Rattle.branch.specs.Causes.{cause_of}
use Rattle.search.specs.declared.run.Turned.{Turned}
use Rattle.search.specs.declared.run.Turned.TheVariants as turns
use Rattle.search.specs.declared.run.Searched.{Searched}
use Rattle.search.specs.declared.run.Searched.TheVariants as answers

-- A tableau of the formulas that a problem refutes, with at most so many Steps, each of which takes the first offer.
pub record IsGrownOf (p : Problem) (steps rewrites : ℕ) (t : State) : Type 0 where
  pub kept : IsKept t
  pub symbols : map symbol_tree t.symbols ≡ p.symbols
  pub limit : t.rewrites ≡ rewrites
  pub given : given_forms t ≡ refuted p
  pub within : count (tree t) ≤ steps
  pub picked : All (λ k. k ≡ 0) (picks (tree t))

-- whatever it was grown of, it is still, while it has no more Steps than are allowed
abbrev pub StaysGrown : State → State → Type 0
StaysGrown t u =
    (p : Problem) (steps rewrites : ℕ) → count (tree u) ≤ steps → IsGrownOf p steps rewrites t → IsGrownOf p steps rewrites u

-- no leaf is Open, or the current branch isn't closed
abbrev pub IsSettled : State → Type 0
IsSettled t = (is_finished (tree t) ≡ true) ⊎ IsUnclosed t

-- the current branch has so many offers
abbrev pub HasOffers : State → ℕ → Type 0
HasOffers t n = AtLeaf t (λ leaf. (os : List Offer) × AreOffers (setting t) leaf.table leaf.branch os × (length os ≡ n))

-- the current branch isn't closed, and no Step is put there for this cause
abbrev pub StopsHere : ℕ → State → Cause → Type 0
StopsHere steps t why = AtLeaf t (λ leaf. (closing leaf.branch ≡ None) × StopsAt (setting t) steps (count (tree t)) leaf why)

-- a Step can be put at the current leaf, or here is why not
abbrev pub IsChecked : ℕ → State → Option Why → Type 0
IsChecked steps t None = HasOffer t 0 × AtLeaf t (λ leaf. leaf.above < 512) × (count (tree t) < steps)
IsChecked steps t (Some why) = StopsHere steps t (cause_of why)

-- the ids of a stop are the store's
abbrev pub HasStop : Tables → BranchStop → Type 0
HasStop s stops.Memory = Unit {0}
HasStop s (stops.Spent from) = HasForm s from
HasStop s (stops.Deep at) = HasRedex s at

-- the reason that a stop gives; want of memory is none
abbrev pub IsWhyOf : Tables → BranchStop → Why → Type 0
IsWhyOf s stops.Memory why = ⊥
IsWhyOf s (stops.Spent from) why = cause_of why ≡ Cause.rewrites (form_of s from)
IsWhyOf s (stops.Deep at) why = cause_of why ≡ Cause.deep (redex_of s at)

-- how a search ends: no leaf is Open, or it stops at the current leaf
abbrev pub IsEnded : ℕ → State → Option Why → Type 0
IsEnded steps t None = is_finished (tree t) ≡ true
IsEnded steps t (Some why) = StopsHere steps t (cause_of why)

-- one Step more, or the end
abbrev pub IsTurn : ℕ → State → State → Turned → Type 0
IsTurn steps t u turns.Grown = (count (tree u) ≡ suc (count (tree t))) × (count (tree u) ≤ steps)
IsTurn steps t u (turns.Ended why) = (count (tree u) ≡ count (tree t)) × IsEnded steps u why

-- The answer for a problem: a closed tableau, or one that is stopped for its cause.
abbrev pub IsFound : Problem → ℕ → ℕ → Searched → Type 0
IsFound p steps rewrites (answers.Closed t) = IsGrownOf p steps rewrites t × (is_finished (tree t) ≡ true)
IsFound p steps rewrites (answers.Open t why) =
    IsGrownOf p steps rewrites t × Stopped (setting t) (refuted p) steps (tree t) (cause_of why)

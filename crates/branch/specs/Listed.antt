-- Offers over the ids of a store, with the children of the Steps that take them, and their trees.
use Rattle.std.specs.Prelude.{ℕ, ◌≡◌, ◌+◌, ◌^◌, ◌-◌, min, List, [], ◌∷◌, map, length}
use Rattle.zm_logic.specs.Tree.{Form}
use Rattle.zm_logic.specs.Measure as measure
use Rattle.term_store.specs.Trees.{Tables}
use Rattle.term_store.specs.declared.opening.Redex.{Redex}
use Rattle.param_store.specs.View.{act_of, lists_of, HasAct, HasLists}
use Rattle.param_store.specs.declared.fault.OfferFault.{OfferFault}
use Rattle.param_store.specs.declared.fault.OfferFault.TheVariants as faults
use Rattle.branch.specs.declared.listed.Listed.{Listed}
use Rattle.branch.specs.declared.stop.BranchStop.{BranchStop}
use Rattle.branch.specs.declared.stop.BranchStop.TheVariants as stops
use Rattle.branch.specs.Ids.{kind_of}
use Rattle.branch.specs.Offers.{Child, Offer, total_size}

-- a number, or the greatest u64 where it would pass that
abbrev pub capped : ℕ → ℕ
capped n = min n (2 ^ 64 - 1)

-- the sum of the sizes of formulas, and of those of lists of them
abbrev pub forms_size : List Form → ℕ
forms_size [] = 0
forms_size (f ∷ fs) = measure.size f + forms_size fs

abbrev pub lists_size : List (List Form) → ℕ
lists_size [] = 0
lists_size (c ∷ cs) = forms_size c + lists_size cs

-- the children of two lists of lists, the formulas before normalising and those after
abbrev pub children_of : List (List Form) → List (List Form) → List Child
children_of [] [] = []
children_of [] (n ∷ ns) = []
children_of (r ∷ rs) [] = []
children_of (r ∷ rs) (n ∷ ns) = record { raw = r; normal = n } ∷ children_of rs ns

abbrev pub listed_children : Tables → Listed → List Child
listed_children s l = children_of (lists_of s l.raw) (lists_of s l.normal)

-- The tree of an offer. The size that a chooser sees is a u64, and the tree's is a number of any size.
abbrev pub listed_of : Tables → Listed → Offer
listed_of s l = record {
  kind = kind_of l.offer.kind;
  act = act_of s l.act;
  children = listed_children s l;
  later = l.offer.later;
  earlier = l.offer.earlier;
  size = total_size (listed_children s l);
}

-- The ids are those of the store, each child has its formulas before and after normalising, and a chooser sees the number
-- of the children and their size.
pub record IsListed (s : Tables) (l : Listed) : Type 0 where
  pub act : HasAct s l.act
  pub raw : HasLists s l.raw
  pub normal : HasLists s l.normal
  pub paired : length l.normal ≡ length l.raw
  pub counted : l.offer.children ≡ length l.raw
  pub sized : l.offer.size ≡ capped (total_size (listed_children s l))

abbrev pub EachListed : Tables → List Listed → Type 0
EachListed s [] = Unit {0}
EachListed s (l ∷ ls) = IsListed s l × EachListed s ls

-- the offers over ids are these
pub record AreListed (s : Tables) (os : List Offer) (ls : List Listed) : Type 0 where
  pub each : EachListed s ls
  pub offers : map (listed_of s) ls ≡ os

-- what holds where offers can't be made: without rules, only something too deep stops them, and it is named
abbrev pub IfStop : (Redex → Type 0) → BranchStop → Type 0
IfStop P stops.Memory = Unit {0}
IfStop P (stops.Spent from) = ⊥
IfStop P (stops.Deep at) = P at

-- the stop of a fault
abbrev pub stop_of : OfferFault → BranchStop
stop_of faults.Memory = stops.Memory
stop_of (faults.Deep at) = stops.Deep at

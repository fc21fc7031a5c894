-- What is left of the raw offers of a branch, part by part, where there are no rules and no unnegated equality on it.
use Rattle.std.specs.Prelude.{ℕ, ◌≡◌, false, List, [], ◌∷◌, ◌++◌, Option, None, Some, map, filter, take, slice_index_or}
use Rattle.zm_logic.specs.Tree.{Form}
use Rattle.param_store.specs.RawOffers.{Raw, Quantified, split, quantified}
use Rattle.branch.specs.Setting.{Setting}
use Rattle.branch.specs.Normal.{Fault, Made, MakesAll}
use Rattle.branch.specs.BranchOffers.{Kind, Entry, opened_kind, split_kind, own_entries, SingleEntries, PairEntries, PairsWith, EntriesFrom}
use Rattle.branch.specs.Offers.{Child, Offer, MakesOffer, is_useful, total_size}

-- the kind of a formula's own offer
abbrev pub kind_for : List (List Form) → Option Quantified → Kind
kind_for cs None = split_kind cs
kind_for cs (Some q) = opened_kind q.kind

abbrev pub own_kind : Form → Kind
own_kind f = kind_for (split f) (quantified f)

-- the kind of an alpha or a beta formula's offer, from its children
abbrev pub first_kind : List Raw → Kind
first_kind [] = Kind.alpha
first_kind (r ∷ rs) = split_kind r.children

-- a raw offer, each of whose formulas is its own normal form
abbrev pub unchanged : List (List Form) → List Child
unchanged [] = []
unchanged (r ∷ rs) = record { raw = r; normal = r } ∷ unchanged rs

abbrev pub offer_at : Kind → ℕ → Option ℕ → Raw → Offer
offer_at k j i r =
    record { kind = k; act = r.act; children = unchanged r.children; later = j; earlier = i; size = total_size (unchanged r.children) }

-- what is left of raw offers of a kind, at a place
abbrev pub offers_at : List Form → Kind → ℕ → Option ℕ → List Raw → List Offer
offers_at branch k j i rs = filter (is_useful branch) (map (offer_at k j i) rs)

-- all entries can be made, and these offers are left of them
pub record AreLeft (s : Setting) (branch : List Form) (es : List Entry) (os : List Offer) : Type 0 where
  pub all : List Offer
  pub made : MakesAll (MakesOffer s) es (Made.made all)
  pub useful : filter (is_useful branch) all ≡ os

-- of some entries the first that can't be made has this fault
pub record Fails (Are : List Entry → Type 0) (s : Setting) (fault : Fault) : Type 0 where
  pub entries : List Entry
  pub are : Are entries
  pub first : MakesAll (MakesOffer s) entries (Made.fault fault)

-- The parts: what the formula at a place gives by itself, beyond its rule, with an earlier one, with those before some
-- place, and in all; and what the formulas before a place give.
abbrev pub form_at : List Form → ℕ → Form
form_at branch j = slice_index_or branch j Form.truth

abbrev pub OwnAt : ℕ → Setting → List Form → List Form → List Entry → Type 0
OwnAt j s table branch es = es ≡ own_entries table j (form_at branch j)

abbrev pub SingleAt : ℕ → Setting → List Form → List Form → List Entry → Type 0
SingleAt j s table branch es = SingleEntries s table false j (form_at branch j) es

abbrev pub PairAt : ℕ → ℕ → Setting → List Form → List Form → List Entry → Type 0
PairAt j i s table branch es = PairEntries s table false j i (form_at branch i) (form_at branch j) es

abbrev pub PairsTo : ℕ → ℕ → Setting → List Form → List Form → List Entry → Type 0
PairsTo j n s table branch es = PairsWith s table false j (form_at branch j) 0 (take n branch) es

pub record OthersAt (j : ℕ) (s : Setting) (table branch : List Form) (es : List Entry) : Type 0 where
  pub single : List Entry
  pub pairs : List Entry
  pub are_single : SingleAt j s table branch single
  pub are_pairs : PairsTo j j s table branch pairs
  pub all : es ≡ single ++ pairs

pub record PlaceAt (j : ℕ) (s : Setting) (table branch : List Form) (es : List Entry) : Type 0 where
  pub others : List Entry
  pub are_others : OthersAt j s table branch others
  pub all : es ≡ own_entries table j (form_at branch j) ++ others

abbrev pub PlacesTo : ℕ → Setting → List Form → List Form → List Entry → Type 0
PlacesTo n s table branch es = EntriesFrom s table false [] (take n branch) es

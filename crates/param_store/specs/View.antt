-- The trees of offers over ids.
use Rattle.std.specs.Prelude.{◌≡◌, ◌≤◌, List, [], ◌∷◌, Option, None, Some, map}
use Rattle.std.specs.Option.{option_map}
use Rattle.zm_logic.specs.Tree as tree
use Rattle.zm_logic.specs.Measure.{type_depth}
use Rattle.term_store.specs.Trees.{Tables, HasType, HasForm, type_of, form_of}
use Rattle.term_store.specs.Open.{HasPart, part_of}
use Rattle.term_store.specs.declared.ids.FormId.{FormId}
use Rattle.term_store.specs.declared.opening.Opening.{Opening}
use Rattle.param_store.specs.declared.offer.Act.{Act}
use Rattle.param_store.specs.declared.offer.RawOffer.{RawOffer}
use Rattle.param_store.specs.declared.quantified.Quantified.{Quantified}
use Rattle.param_store.specs.declared.quantified.QuantifierKind.{QuantifierKind}
use Rattle.param_store.specs.declared.quantified.QuantifierKind.TheVariants as kinds
use Rattle.param_store.specs.declared.quantified.Binder.{Binder}
use Rattle.param_store.specs.declared.quantified.Binder.TheVariants as binders
use Rattle.param_store.specs.RawOffers as raw

-- the formulas of ids
abbrev pub forms_of : Tables → List FormId → List tree.Form
forms_of s ids = map (form_of s) ids

abbrev pub lists_of : Tables → List (List FormId) → List (List tree.Form)
lists_of s [] = []
lists_of s (ids ∷ more) = forms_of s ids ∷ lists_of s more

abbrev pub act_of : Tables → Act → raw.Act
act_of s a =
    record { first = form_of s a.first; second = option_map (form_of s) a.second; part = option_map (part_of s) a.with; other = a.other }

abbrev pub raw_of : Tables → RawOffer → raw.Raw
raw_of s r = record { act = act_of s r.act; children = lists_of s r.children }

-- the ids are those of the store
abbrev pub HasForms : Tables → List FormId → Type 0
HasForms s [] = Unit {0}
HasForms s (i ∷ is) = HasForm s i × HasForms s is

abbrev pub HasLists : Tables → List (List FormId) → Type 0
HasLists s [] = Unit {0}
HasLists s (ids ∷ more) = HasForms s ids × HasLists s more

abbrev pub HasSecond : Tables → Option FormId → Type 0
HasSecond s None = Unit {0}
HasSecond s (Some i) = HasForm s i

abbrev pub HasWith : Tables → Option Opening → Type 0
HasWith s None = Unit {0}
HasWith s (Some w) = HasPart s w

pub record HasAct (s : Tables) (a : Act) : Type 0 where
  pub first : HasForm s a.first
  pub second : HasSecond s a.second
  pub part : HasWith s a.with

pub record HasRaw (s : Tables) (r : RawOffer) : Type 0 where
  pub act : HasAct s r.act
  pub children : HasLists s r.children

abbrev pub HasRaws : Tables → List RawOffer → Type 0
HasRaws s [] = Unit {0}
HasRaws s (r ∷ rs) = HasRaw s r × HasRaws s rs

-- the offers over ids are these
pub record AreRaws (s : Tables) (os : List raw.Raw) (rs : List RawOffer) : Type 0 where
  pub has : HasRaws s rs
  pub offers : map (raw_of s) rs ≡ os

-- the formulas are these
pub record AreForms (s : Tables) (fs : List tree.Form) (ids : List FormId) : Type 0 where
  pub has : HasForms s ids
  pub forms : forms_of s ids ≡ fs

pub record AreLists (s : Tables) (cs : List (List tree.Form)) (ids : List (List FormId)) : Type 0 where
  pub has : HasLists s ids
  pub lists : lists_of s ids ≡ cs

-- a quantified formula
abbrev pub kind_of : QuantifierKind → raw.QuantifierKind
kind_of kinds.Delta = raw.QuantifierKind.delta
kind_of kinds.Gamma = raw.QuantifierKind.gamma

abbrev pub binder_of : Tables → Binder → tree.Binder
binder_of s binders.OfType = tree.Binder.of_type
binder_of s (binders.OfTerm t) = tree.Binder.of_term (type_of s t)

abbrev pub quantified_of : Tables → Quantified → raw.Quantified
quantified_of s q = record { kind = kind_of q.kind; binder = binder_of s q.binder; holds = q.holds; body = form_of s q.body }

-- a parameter that carries the type is no deeper than 2,000
abbrev pub HasBinder : Tables → Binder → Type 0
HasBinder s binders.OfType = Unit {0}
HasBinder s (binders.OfTerm t) = HasType s t × (type_depth (type_of s t) ≤ 1999)

pub record HasQuantified (s : Tables) (q : Quantified) : Type 0 where
  pub binder : HasBinder s q.binder
  pub body : HasForm s q.body

-- The offer of an alpha or a beta formula.
use Rattle.std.proofs.Common.{◌≡◌, None, List, [], ◌∷◌, ap}
use Rattle.zm_logic.specs.Tree as tree
use Rattle.term_store.specs.Trees.{Tables, HasForm, form_of, Extends}
use Rattle.term_store.specs.declared.ids.FormId.{FormId}
use Rattle.term_store.proofs.Kept.{still_form, kept_form}
use Rattle.param_store.specs.RawOffers as raw
use Rattle.param_store.specs.View.{AreLists, AreRaws, raw_of}
use Rattle.param_store.proofs.Offers.{offer_of}
use Rattle.tableau_rules.specs.declared.split.Split.{Split}
use Rattle.tableau_rules.specs.declared.split.Split.TheVariants as splits
use Rattle.tableau_rules.specs.Split.{children_of}

module _ (s t : Tables) (e : Extends s t) (f : FormId) (h : HasForm s f) where
  split_one : (c : List tree.Form) (cs : List (List tree.Form)) (ids : List (List FormId)) → AreLists t (c ∷ cs) ids
      → AreRaws t (raw.split_offers (form_of s f) (c ∷ cs)) (offer_of f None ids ∷ [])
  split_one c cs ids k =
      let a = kept_form s t e f h in
      let b = k.lists in
      let same : raw_of t (offer_of f None ids) ≡ record { act = raw.on (form_of s f); children = c ∷ cs } = cc in
      record {
        has = (record { act = record { first = still_form s t e f h; second = tt; part = tt }; children = k.has }, tt);
        offers = ap (λ r. r ∷ []) same;
      }

  pub split_made : (x : Split) (ids : List (List FormId)) → AreLists t (children_of s x) ids
      → AreRaws t (raw.split_offers (form_of s f) (children_of s x)) (offer_of f None ids ∷ [])
  split_made (splits.Alpha c) ids k = split_one _ _ ids k
  split_made (splits.Beta c d) ids k = split_one _ _ ids k

-- What a caller cites: formulas, lists of them and offers that were given keep their trees.
use Rattle.std.proofs.Common.{◌≡◌, Option, None, Some, List, [], ◌∷◌, map, option_map, refl, ap, ◌∙◌}
use Rattle.zm_logic.specs.Tree as tree
use Rattle.term_store.specs.Trees.{Tables, form_of, Extends}
use Rattle.term_store.specs.Open.{part_of}
use Rattle.term_store.specs.declared.ids.FormId.{FormId}
use Rattle.term_store.specs.declared.opening.Opening.{Opening}
use Rattle.term_store.proofs.Kept.{still_type, still_form, still_part, kept_type, kept_form, kept_part}
use Rattle.param_store.specs.declared.quantified.Binder.{Binder}
use Rattle.param_store.specs.declared.quantified.Binder.TheVariants as binders
use Rattle.param_store.specs.declared.quantified.Quantified.{Quantified}
use Rattle.param_store.specs.View.{forms_of, lists_of, act_of, raw_of, HasForms, HasLists, HasSecond, HasWith, HasAct, HasRaw, HasRaws, AreForms, AreRaws, binder_of, HasBinder, quantified_of, HasQuantified}
use Rattle.param_store.specs.RawOffers as raw
use Rattle.param_store.specs.declared.offer.Act.{Act}
use Rattle.param_store.specs.declared.offer.RawOffer.{RawOffer}

module _ (s t : Tables) (e : Extends s t) where
  pub forms_still : (ids : List FormId) → HasForms s ids → HasForms t ids
  forms_still [] h = tt
  forms_still (i ∷ is) h = (still_form s t e i h.0, forms_still is h.1)

  pub forms_stay : (ids : List FormId) → HasForms s ids → forms_of t ids ≡ forms_of s ids
  forms_stay [] h = refl
  forms_stay (i ∷ is) h = ap (λ x. x ∷ forms_of t is) (kept_form s t e i h.0) ∙ ap (λ xs. form_of s i ∷ xs) (forms_stay is h.1)

  pub lists_still : (lists : List (List FormId)) → HasLists s lists → HasLists t lists
  lists_still [] h = tt
  lists_still (ids ∷ more) h = (forms_still ids h.0, lists_still more h.1)

  pub lists_stay : (lists : List (List FormId)) → HasLists s lists → lists_of t lists ≡ lists_of s lists
  lists_stay [] h = refl
  lists_stay (ids ∷ more) h = ap (λ x. x ∷ lists_of t more) (forms_stay ids h.0) ∙ ap (λ xs. forms_of s ids ∷ xs) (lists_stay more h.1)

  pub are_forms_stay : (fs : List tree.Form) (ids : List FormId) → AreForms s fs ids → AreForms t fs ids
  are_forms_stay fs ids h = record { has = forms_still ids h.has; forms = forms_stay ids h.has ∙ h.forms }

  pub binder_still : (b : Binder) → HasBinder s b → HasBinder t b
  binder_still binders.OfType h = tt
  binder_still (binders.OfTerm k) h = (still_type s t e k h.0, rw (kept_type s t e k h.0) h.1)

  pub binder_stays : (b : Binder) → HasBinder s b → binder_of t b ≡ binder_of s b
  binder_stays binders.OfType h = refl
  binder_stays (binders.OfTerm k) h = ap tree.Binder.of_term (kept_type s t e k h.0)

  pub quantified_still : (q : Quantified) → HasQuantified s q → HasQuantified t q
  quantified_still q h = record { binder = binder_still q.binder h.binder; body = still_form s t e q.body h.body }

  pub quantified_stays : (q : Quantified) → HasQuantified s q → quantified_of t q ≡ quantified_of s q
  quantified_stays q h =
      let b = binder_stays q.binder h.binder in let f = kept_form s t e q.body h.body in cc

  -- offers that were made
  pub second_still : (o : Option FormId) → HasSecond s o → HasSecond t o
  second_still None h = tt
  second_still (Some i) h = still_form s t e i h

  pub second_stays : (o : Option FormId) → HasSecond s o → option_map (form_of t) o ≡ option_map (form_of s) o
  second_stays None h = refl
  second_stays (Some i) h = ap Some (kept_form s t e i h)

  pub with_still : (o : Option Opening) → HasWith s o → HasWith t o
  with_still None h = tt
  with_still (Some w) h = still_part s t e w h

  pub with_stays : (o : Option Opening) → HasWith s o → option_map (part_of t) o ≡ option_map (part_of s) o
  with_stays None h = refl
  with_stays (Some w) h = ap Some (kept_part s t e w h)

  pub act_still : (a : Act) → HasAct s a → HasAct t a
  act_still a h = record { first = still_form s t e a.first h.first; second = second_still a.second h.second; part = with_still a.with h.part }

  pub act_stays : (a : Act) → HasAct s a → act_of t a ≡ act_of s a
  act_stays a h =
      let f = kept_form s t e a.first h.first in
      let g = second_stays a.second h.second in
      let w = with_stays a.with h.part in
      cc

  pub raw_still : (r : RawOffer) → HasRaw s r → HasRaw t r
  raw_still r h = record { act = act_still r.act h.act; children = lists_still r.children h.children }

  pub raw_stays : (r : RawOffer) → HasRaw s r → raw_of t r ≡ raw_of s r
  raw_stays r h =
      let a = act_stays r.act h.act in
      let l = lists_stay r.children h.children in
      cc

  pub raws_still : (rs : List RawOffer) → HasRaws s rs → HasRaws t rs
  raws_still [] h = tt
  raws_still (r ∷ rs) h = (raw_still r h.0, raws_still rs h.1)

  pub raws_stay : (rs : List RawOffer) → HasRaws s rs → map (raw_of t) rs ≡ map (raw_of s) rs
  raws_stay [] h = refl
  raws_stay (r ∷ rs) h = ap (λ x. x ∷ map (raw_of t) rs) (raw_stays r h.0) ∙ ap (λ xs. raw_of s r ∷ xs) (raws_stay rs h.1)

  pub are_raws_stay : (os : List raw.Raw) (rs : List RawOffer) → AreRaws s os rs → AreRaws t os rs
  are_raws_stay os rs h = record { has = raws_still rs h.has; offers = raws_stay rs h.has ∙ h.offers }

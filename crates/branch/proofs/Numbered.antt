-- A formula that has a number keeps the numbers as they are.
use Rattle.std.proofs.Common.{◌≡◌, Bool, true, false, ◌||◌, if◌then◌else◌, List, [], ◌∷◌, ◌++◌, Contains, inl, inr, refl, ap, sym, subst}
use Rattle.std.specs.List.{list_any}
use Rattle.std.proofs.lemmas.Bool.{or_right}
use Rattle.zm_logic.proofs.Sames.{Contains-none, Contains-cases}
use Rattle.term_store.specs.Trees.{Tables, AreShared, HasForm, form_of}
use Rattle.term_store.specs.declared.ids.FormId.{FormId}
use Rattle.param_store.specs.Numbers.{same_id, numbers_with}
use Rattle.param_store.specs.RawOffers.{is_quantified}
use Rattle.param_store.specs.View.{forms_of, HasForms}
use Rattle.param_store.proofs.Numbers.{same_id_self}

module _ (s : Tables) (shared : AreShared s) (form : FormId) (here : HasForm s form) where
  known : (ids : List FormId) → HasForms s ids → Contains (forms_of s ids) (form_of s form) → list_any (same_id form) ids ≡ true
  known [] h c = absurd (Contains-none (form_of s form) c)
  known (g ∷ ids) h c = elim (Contains-cases (form_of s g) (forms_of s ids) (form_of s form) c) [
    | inl e ↦ (let i : g ≡ form = shared.forms g form h.0 here e in
        ap (λ b. b || list_any (same_id form) ids) (subst (λ x. same_id form x ≡ true) (sym i) (same_id_self form)))
    | inr m ↦ or_right (same_id form g) (list_any (same_id form) ids) (known ids h.1 m)
  ]

  pub numbers_stay : (params : List FormId) → HasForms s params
      → (is_quantified (form_of s form) ≡ true → Contains (forms_of s params) (form_of s form))
      → numbers_with (is_quantified (form_of s form)) params form ≡ params
  numbers_stay params h c = by (is_quantified (form_of s form)) c
    where
      by : (q : Bool) → (q ≡ true → Contains (forms_of s params) (form_of s form)) → numbers_with q params form ≡ params
      by true c = ap (λ b. if b then params else params ++ form ∷ []) (known params h (c refl))
      by false c = refl

-- Ids tell whether their trees are the same.
use Rattle.std.proofs.Common.{◌≡◌, ◌==◌, true, ap, sym, subst, ◌∙◌, inl, inr}
use Rattle.std.proofs.lemmas.Bool.Decides.{eqb_tells}
use Rattle.std.proofs.lemmas.Bool.{false_from_ne_true}
use Rattle.zm_logic.specs.Same.{same_type, same_term, same}
use Rattle.zm_logic.proofs.Sames.{same_type-self, same_type-true, same_term-self, same_term-true, same-self, same-true}
use Rattle.term_store.specs.Trees.{Tables, AreShared, HasType, HasTerm, HasForm, type_of, term_of, form_of}
use Rattle.term_store.specs.declared.ids.TyId.{TyId}
use Rattle.term_store.specs.declared.ids.TermId.{TermId}
use Rattle.term_store.specs.declared.ids.FormId.{FormId}
use Rattle.term_store.proofs.Equal as equal

module _ (s : Tables) (shared : AreShared s) where
  pub types_told : (i j : TyId) → HasType s i → HasType s j → (i.0 == j.0) ≡ same_type (type_of s i) (type_of s j)
  types_told i j h k = elim (eqb_tells i.0 j.0) [
    | inl x ↦ x.0 ∙ sym (subst (λ z. same_type (type_of s i) (type_of s z) ≡ true) (equal.same_type i j x.1) (same_type-self (type_of s i)))
    | inr x ↦ x.0 ∙ sym (false_from_ne_true _ (λ e. x.1 (ap (λ z. z.0) (shared.types i j h k (same_type-true _ _ e)))))
  ]

  pub terms_told : (i j : TermId) → HasTerm s i → HasTerm s j → (i.0 == j.0) ≡ same_term (term_of s i) (term_of s j)
  terms_told i j h k = elim (eqb_tells i.0 j.0) [
    | inl x ↦ x.0 ∙ sym (subst (λ z. same_term (term_of s i) (term_of s z) ≡ true) (equal.same_term i j x.1) (same_term-self (term_of s i)))
    | inr x ↦ x.0 ∙ sym (false_from_ne_true _ (λ e. x.1 (ap (λ z. z.0) (shared.terms i j h k (same_term-true _ _ e)))))
  ]

  pub forms_told : (i j : FormId) → HasForm s i → HasForm s j → (i.0 == j.0) ≡ same (form_of s i) (form_of s j)
  forms_told i j h k = elim (eqb_tells i.0 j.0) [
    | inl x ↦ x.0 ∙ sym (subst (λ z. same (form_of s i) (form_of s z) ≡ true) (equal.same_form i j x.1) (same-self (form_of s i)))
    | inr x ↦ x.0 ∙ sym (false_from_ne_true _ (λ e. x.1 (ap (λ z. z.0) (shared.forms i j h k (same-true _ _ e)))))
  ]

-- Ids tell whether a tree stands in a list.
use Rattle.std.proofs.Common.{◌≡◌, ◌==◌, ◌||◌, refl, ap, ◌∙◌, List, [], ◌∷◌}
use Rattle.std.specs.List.{list_any}
use Rattle.zm_logic.specs.Same.{same, has}
use Rattle.term_store.specs.Trees.{Tables, AreShared, HasForm, form_of}
use Rattle.term_store.specs.declared.ids.FormId.{FormId}
use Rattle.term_store.proofs.Told.{forms_told}
use Rattle.param_store.specs.View.{forms_of, HasForms}

module _ (s : Tables) (shared : AreShared s) where
  pub has_told : (ids : List FormId) (f : FormId) → HasForms s ids → HasForm s f → list_any (λ g. g.0 == f.0) ids ≡ has (forms_of s ids) (form_of s f)
  has_told [] f h k = refl
  has_told (g ∷ ids) f h k =
      ap (λ b. b || list_any (λ (i : FormId). i.0 == f.0) ids) (forms_told s shared g f h.0 k)
      ∙ ap (λ b. same (form_of s g) (form_of s f) || b) (has_told ids f h.1 k)

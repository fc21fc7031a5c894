-- Parts of a list of ids that are those of a store.
use Rattle.std.proofs.Common.{ℕ, zero, suc, ◌≡◌, ◌+◌, ◌<◌, List, [], ◌∷◌, ◌++◌, length, get_or, take, ap, ◌∙◌, arith}
use Rattle.std.proofs.lemmas.List.{take_more, map-append}
use Rattle.term_store.specs.Trees.{Tables, HasForm, form_of}
use Rattle.term_store.specs.declared.ids.FormId.{FormId}
use Rattle.param_store.specs.View.{forms_of, HasForms}

module _ (s : Tables) where
  pub held_at : (ids : List FormId) (i : ℕ) (d : FormId) → HasForms s ids → i < length ids → HasForm s (get_or ids i d)
  held_at [] i d h l = absurd (omega (arith, l))
  held_at (x ∷ xs) zero d h l = h.0
  held_at (x ∷ xs) (suc i) d h l = held_at xs i d h.1 (omega (arith, l))

  pub held_front : (ids : List FormId) (n : ℕ) → HasForms s ids → HasForms s (take n ids)
  held_front [] zero h = tt
  held_front [] (suc n) h = tt
  held_front (x ∷ xs) zero h = tt
  held_front (x ∷ xs) (suc n) h = (h.0, held_front xs n h.1)

  pub held_push : (ids : List FormId) (f : FormId) → HasForms s ids → HasForm s f → HasForms s (ids ++ f ∷ [])
  held_push [] f h k = (k, tt)
  held_push (x ∷ xs) f h k = (h.0, held_push xs f h.1 k)

  -- the formulas up to a place of a loop
  pub forms_front : (ids : List FormId) (i : ℕ) (d : FormId) → i < length ids
      → forms_of s (take (i + 1) ids) ≡ forms_of s (take i ids) ++ form_of s (get_or ids i d) ∷ []
  forms_front ids i d l = ap (forms_of s) (take_more ids i d l) ∙ map-append (form_of s) (take i ids) (get_or ids i d ∷ [])

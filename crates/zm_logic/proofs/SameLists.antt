-- The test of sameness on lists, from one place on.
use Rattle.std.proofs.Common.{ℕ, suc, ◌≡◌, ◌+◌, ◌<◌, ◌≤◌, true, false, ◌&&◌, List, [], ◌∷◌, length, get_or, drop, refl, ap, ◌∙◌}
use Rattle.std.proofs.lemmas.List.{drop_more, drop_all}
use Rattle.std.proofs.lemmas.Bool.{and_right}
use Rattle.zm_logic.specs.declared.tree.Ty.{Ty}
use Rattle.zm_logic.specs.declared.tree.Term.{Term}
use Rattle.zm_logic.specs.View.{type_tree, types_tree, term_tree, terms_tree}
use Rattle.zm_logic.specs.Same.{same_type, same_types, same_term, same_terms}

types_step : (xs ys : List Ty) (i : ℕ) (d e : Ty) → i < length xs → i < length ys
    → same_types (types_tree (drop i xs)) (types_tree (drop i ys))
    ≡ (same_type (type_tree (get_or xs i d)) (type_tree (get_or ys i e)) && same_types (types_tree (drop (i + 1) xs)) (types_tree (drop (i + 1) ys)))
types_step xs ys i d e h k = rw (drop_more xs i d h, drop_more ys i e k)

pub types_yes : (xs ys : List Ty) (i : ℕ) (d e : Ty) → i < length xs → i < length ys
    → same_type (type_tree (get_or xs i d)) (type_tree (get_or ys i e)) ≡ true
    → same_types (types_tree (drop i xs)) (types_tree (drop i ys)) ≡ same_types (types_tree (drop (i + 1) xs)) (types_tree (drop (i + 1) ys))
types_yes xs ys i d e h k s =
    types_step xs ys i d e h k ∙ ap (λ b. b && same_types (types_tree (drop (i + 1) xs)) (types_tree (drop (i + 1) ys))) s

pub types_no : (xs ys : List Ty) (i : ℕ) (d e : Ty) → i < length xs → i < length ys
    → same_type (type_tree (get_or xs i d)) (type_tree (get_or ys i e)) ≡ false
    → same_types (types_tree (drop i xs)) (types_tree (drop i ys)) ≡ false
types_no xs ys i d e h k s =
    types_step xs ys i d e h k ∙ ap (λ b. b && same_types (types_tree (drop (i + 1) xs)) (types_tree (drop (i + 1) ys))) s

pub types_unequal : (xs ys : List Ty) → (length xs ≡ length ys → ⊥) → same_types (types_tree xs) (types_tree ys) ≡ false
types_unequal [] [] h = absurd (h refl)
types_unequal [] (y ∷ ys) h = refl
types_unequal (x ∷ xs) [] h = refl
types_unequal (x ∷ xs) (y ∷ ys) h =
    ap (λ b. same_type (type_tree x) (type_tree y) && b) (types_unequal xs ys (λ e. h (ap suc e)))
    ∙ (and_right (same_type (type_tree x) (type_tree y)) false refl)

pub types_end : (xs ys : List Ty) (i : ℕ) → length xs ≤ i → length ys ≤ i → same_types (types_tree (drop i xs)) (types_tree (drop i ys)) ≡ true
types_end xs ys i h k = rw (drop_all i xs h, drop_all i ys k)

terms_step : (xs ys : List Term) (i : ℕ) (d e : Term) → i < length xs → i < length ys
    → same_terms (terms_tree (drop i xs)) (terms_tree (drop i ys))
    ≡ (same_term (term_tree (get_or xs i d)) (term_tree (get_or ys i e)) && same_terms (terms_tree (drop (i + 1) xs)) (terms_tree (drop (i + 1) ys)))
terms_step xs ys i d e h k = rw (drop_more xs i d h, drop_more ys i e k)

pub terms_yes : (xs ys : List Term) (i : ℕ) (d e : Term) → i < length xs → i < length ys
    → same_term (term_tree (get_or xs i d)) (term_tree (get_or ys i e)) ≡ true
    → same_terms (terms_tree (drop i xs)) (terms_tree (drop i ys)) ≡ same_terms (terms_tree (drop (i + 1) xs)) (terms_tree (drop (i + 1) ys))
terms_yes xs ys i d e h k s =
    terms_step xs ys i d e h k ∙ ap (λ b. b && same_terms (terms_tree (drop (i + 1) xs)) (terms_tree (drop (i + 1) ys))) s

pub terms_no : (xs ys : List Term) (i : ℕ) (d e : Term) → i < length xs → i < length ys
    → same_term (term_tree (get_or xs i d)) (term_tree (get_or ys i e)) ≡ false
    → same_terms (terms_tree (drop i xs)) (terms_tree (drop i ys)) ≡ false
terms_no xs ys i d e h k s =
    terms_step xs ys i d e h k ∙ ap (λ b. b && same_terms (terms_tree (drop (i + 1) xs)) (terms_tree (drop (i + 1) ys))) s

pub terms_unequal : (xs ys : List Term) → (length xs ≡ length ys → ⊥) → same_terms (terms_tree xs) (terms_tree ys) ≡ false
terms_unequal [] [] h = absurd (h refl)
terms_unequal [] (y ∷ ys) h = refl
terms_unequal (x ∷ xs) [] h = refl
terms_unequal (x ∷ xs) (y ∷ ys) h =
    ap (λ b. same_term (term_tree x) (term_tree y) && b) (terms_unequal xs ys (λ e. h (ap suc e)))
    ∙ (and_right (same_term (term_tree x) (term_tree y)) false refl)

pub terms_end : (xs ys : List Term) (i : ℕ) → length xs ≤ i → length ys ≤ i → same_terms (terms_tree (drop i xs)) (terms_tree (drop i ys)) ≡ true
terms_end xs ys i h k = rw (drop_all i xs h, drop_all i ys k)

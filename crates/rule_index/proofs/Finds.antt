-- What is found in lists of types and of terms, from one place on.
use Rattle.std.proofs.Common.{ℕ, ◌≡◌, ◌+◌, ◌<◌, ◌≤◌, true, false, if◌then◌else◌, List, [], ◌∷◌, length, get_or, drop, refl, ap, ◌∙◌}
use Rattle.std.proofs.lemmas.List.{drop_more, drop_all}
use Rattle.zm_logic.specs.declared.tree.Ty.{Ty}
use Rattle.zm_logic.specs.declared.tree.Term.{Term}
use Rattle.zm_logic.specs.View.{type_tree, types_tree, term_tree, terms_tree}
use Rattle.zm_logic.specs.Index.{type_has, term_has}
use Rattle.rule_index.specs.Matching.{nothing, find_in_type, find_in_types, find_in_term, find_in_terms}

types_find_step : (d n : ℕ) (ts xs : List Ty) (i : ℕ) (e f : Ty) → i < length ts → i < length xs
    → find_in_types d n (types_tree (drop i ts)) (types_tree (drop i xs))
    ≡ (if type_has (n + d) (type_tree (get_or ts i e)) then find_in_type d n (type_tree (get_or ts i e)) (type_tree (get_or xs i f))
    else find_in_types d n (types_tree (drop (i + 1) ts)) (types_tree (drop (i + 1) xs)))
types_find_step d n ts xs i e f h k = rw (drop_more ts i e h, drop_more xs i f k)

pub types_find_here : (d n : ℕ) (ts xs : List Ty) (i : ℕ) (e f : Ty) → i < length ts → i < length xs
    → type_has (n + d) (type_tree (get_or ts i e)) ≡ true
    → find_in_types d n (types_tree (drop i ts)) (types_tree (drop i xs)) ≡ find_in_type d n (type_tree (get_or ts i e)) (type_tree (get_or xs i f))
types_find_here d n ts xs i e f h k s =
    types_find_step d n ts xs i e f h k
    ∙ ap (λ b. if b then find_in_type d n (type_tree (get_or ts i e)) (type_tree (get_or xs i f)) else find_in_types d n (types_tree (drop (i + 1) ts)) (types_tree (drop (i + 1) xs))) s

pub types_find_later : (d n : ℕ) (ts xs : List Ty) (i : ℕ) (e f : Ty) → i < length ts → i < length xs
    → type_has (n + d) (type_tree (get_or ts i e)) ≡ false
    → find_in_types d n (types_tree (drop i ts)) (types_tree (drop i xs)) ≡ find_in_types d n (types_tree (drop (i + 1) ts)) (types_tree (drop (i + 1) xs))
types_find_later d n ts xs i e f h k s =
    types_find_step d n ts xs i e f h k
    ∙ ap (λ b. if b then find_in_type d n (type_tree (get_or ts i e)) (type_tree (get_or xs i f)) else find_in_types d n (types_tree (drop (i + 1) ts)) (types_tree (drop (i + 1) xs))) s

pub types_find_end : (d n : ℕ) (ts xs : List Ty) (i : ℕ) → length ts ≤ i → find_in_types d n (types_tree (drop i ts)) (types_tree (drop i xs)) ≡ nothing
types_find_end d n ts xs i h = rw (drop_all i ts h)

pub types_find_short : (d n : ℕ) (ts xs : List Ty) (i : ℕ) → length xs ≤ i → find_in_types d n (types_tree (drop i ts)) (types_tree (drop i xs)) ≡ nothing
types_find_short d n ts xs i h = rw (drop_all i xs h) (nowhere (drop i ts))
  where
    nowhere : (us : List Ty) → find_in_types d n (types_tree us) (types_tree []) ≡ nothing
    nowhere [] = refl
    nowhere (u ∷ us) = refl

terms_find_step : (d n : ℕ) (ts xs : List Term) (i : ℕ) (e f : Term) → i < length ts → i < length xs
    → find_in_terms d n (terms_tree (drop i ts)) (terms_tree (drop i xs))
    ≡ (if term_has (n + d) (term_tree (get_or ts i e)) then find_in_term d n (term_tree (get_or ts i e)) (term_tree (get_or xs i f))
    else find_in_terms d n (terms_tree (drop (i + 1) ts)) (terms_tree (drop (i + 1) xs)))
terms_find_step d n ts xs i e f h k = rw (drop_more ts i e h, drop_more xs i f k)

pub terms_find_here : (d n : ℕ) (ts xs : List Term) (i : ℕ) (e f : Term) → i < length ts → i < length xs
    → term_has (n + d) (term_tree (get_or ts i e)) ≡ true
    → find_in_terms d n (terms_tree (drop i ts)) (terms_tree (drop i xs)) ≡ find_in_term d n (term_tree (get_or ts i e)) (term_tree (get_or xs i f))
terms_find_here d n ts xs i e f h k s =
    terms_find_step d n ts xs i e f h k
    ∙ ap (λ b. if b then find_in_term d n (term_tree (get_or ts i e)) (term_tree (get_or xs i f)) else find_in_terms d n (terms_tree (drop (i + 1) ts)) (terms_tree (drop (i + 1) xs))) s

pub terms_find_later : (d n : ℕ) (ts xs : List Term) (i : ℕ) (e f : Term) → i < length ts → i < length xs
    → term_has (n + d) (term_tree (get_or ts i e)) ≡ false
    → find_in_terms d n (terms_tree (drop i ts)) (terms_tree (drop i xs)) ≡ find_in_terms d n (terms_tree (drop (i + 1) ts)) (terms_tree (drop (i + 1) xs))
terms_find_later d n ts xs i e f h k s =
    terms_find_step d n ts xs i e f h k
    ∙ ap (λ b. if b then find_in_term d n (term_tree (get_or ts i e)) (term_tree (get_or xs i f)) else find_in_terms d n (terms_tree (drop (i + 1) ts)) (terms_tree (drop (i + 1) xs))) s

pub terms_find_end : (d n : ℕ) (ts xs : List Term) (i : ℕ) → length ts ≤ i → find_in_terms d n (terms_tree (drop i ts)) (terms_tree (drop i xs)) ≡ nothing
terms_find_end d n ts xs i h = rw (drop_all i ts h)

pub terms_find_short : (d n : ℕ) (ts xs : List Term) (i : ℕ) → length xs ≤ i → find_in_terms d n (terms_tree (drop i ts)) (terms_tree (drop i xs)) ≡ nothing
terms_find_short d n ts xs i h = rw (drop_all i xs h) (nowhere (drop i ts))
  where
    nowhere : (us : List Term) → find_in_terms d n (terms_tree us) (terms_tree []) ≡ nothing
    nowhere [] = refl
    nowhere (u ∷ us) = refl

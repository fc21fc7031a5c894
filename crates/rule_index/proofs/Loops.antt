-- Loops over lists of types and of terms, one element further.
use Rattle.std.proofs.Common.{ℕ, ◌≡◌, ◌+◌, ◌<◌, ◌≤◌, true, false, ◌||◌, List, [], ◌∷◌, ◌++◌, length, get_or, take, drop, refl, ap, ◌∙◌}
use Rattle.std.proofs.lemmas.List.{take_more, drop_more, drop_all}
use Rattle.zm_logic.specs.declared.tree.Ty.{Ty}
use Rattle.zm_logic.specs.declared.tree.Term.{Term}
use Rattle.zm_logic.specs.Tree as tree
use Rattle.zm_logic.specs.View.{type_tree, types_tree, term_tree, terms_tree}
use Rattle.zm_logic.specs.Index.{type_has, types_have, term_has, terms_have}
use Rattle.zm_logic.proofs.Lists.{with_type, types_tree_push, with_term, terms_tree_push}
use Rattle.rule_index.specs.Instance.{lift_type, lift_types, lift_term, lift_terms, put_type, put_types, put_term, put_terms}
use Rattle.rule_index.specs.Matching.{lower_type, lower_types, lower_term, lower_terms}

lift_with_type : (d : ℕ) (ts : tree.Tys) (t : tree.Ty) → lift_types d (with_type ts t) ≡ with_type (lift_types d ts) (lift_type d t)
lift_with_type d tree.Tys.none t = refl
lift_with_type d (tree.Tys.more x xs) t = ap (tree.Tys.more (lift_type d x)) (lift_with_type d xs t)

pub types_lift_more : (d : ℕ) (ts rs : List Ty) (i : ℕ) (e r : Ty) → i < length ts
    → types_tree rs ≡ lift_types d (types_tree (take i ts)) → type_tree r ≡ lift_type d (type_tree (get_or ts i e))
    → types_tree (rs ++ r ∷ []) ≡ lift_types d (types_tree (take (i + 1) ts))
types_lift_more d ts rs i e r l h k =
    rw (take_more ts i e l, types_tree_push (take i ts) (get_or ts i e), types_tree_push rs r, lift_with_type d (types_tree (take i ts)) (type_tree (get_or ts i e)), h, k)

lift_with_term : (d : ℕ) (ts : tree.Terms) (t : tree.Term) → lift_terms d (with_term ts t) ≡ with_term (lift_terms d ts) (lift_term d t)
lift_with_term d tree.Terms.none t = refl
lift_with_term d (tree.Terms.more x xs) t = ap (tree.Terms.more (lift_term d x)) (lift_with_term d xs t)

pub terms_lift_more : (d : ℕ) (ts rs : List Term) (i : ℕ) (e r : Term) → i < length ts
    → terms_tree rs ≡ lift_terms d (terms_tree (take i ts)) → term_tree r ≡ lift_term d (term_tree (get_or ts i e))
    → terms_tree (rs ++ r ∷ []) ≡ lift_terms d (terms_tree (take (i + 1) ts))
terms_lift_more d ts rs i e r l h k =
    rw (take_more ts i e l, terms_tree_push (take i ts) (get_or ts i e), terms_tree_push rs r, lift_with_term d (terms_tree (take i ts)) (term_tree (get_or ts i e)), h, k)

lower_with_type : (d : ℕ) (ts : tree.Tys) (t : tree.Ty) → lower_types d (with_type ts t) ≡ with_type (lower_types d ts) (lower_type d t)
lower_with_type d tree.Tys.none t = refl
lower_with_type d (tree.Tys.more x xs) t = ap (tree.Tys.more (lower_type d x)) (lower_with_type d xs t)

pub types_lower_more : (d : ℕ) (ts rs : List Ty) (i : ℕ) (e r : Ty) → i < length ts
    → types_tree rs ≡ lower_types d (types_tree (take i ts)) → type_tree r ≡ lower_type d (type_tree (get_or ts i e))
    → types_tree (rs ++ r ∷ []) ≡ lower_types d (types_tree (take (i + 1) ts))
types_lower_more d ts rs i e r l h k =
    rw (take_more ts i e l, types_tree_push (take i ts) (get_or ts i e), types_tree_push rs r, lower_with_type d (types_tree (take i ts)) (type_tree (get_or ts i e)), h, k)

lower_with_term : (d : ℕ) (ts : tree.Terms) (t : tree.Term) → lower_terms d (with_term ts t) ≡ with_term (lower_terms d ts) (lower_term d t)
lower_with_term d tree.Terms.none t = refl
lower_with_term d (tree.Terms.more x xs) t = ap (tree.Terms.more (lower_term d x)) (lower_with_term d xs t)

pub terms_lower_more : (d : ℕ) (ts rs : List Term) (i : ℕ) (e r : Term) → i < length ts
    → terms_tree rs ≡ lower_terms d (terms_tree (take i ts)) → term_tree r ≡ lower_term d (term_tree (get_or ts i e))
    → terms_tree (rs ++ r ∷ []) ≡ lower_terms d (terms_tree (take (i + 1) ts))
terms_lower_more d ts rs i e r l h k =
    rw (take_more ts i e l, terms_tree_push (take i ts) (get_or ts i e), terms_tree_push rs r, lower_with_term d (terms_tree (take i ts)) (term_tree (get_or ts i e)), h, k)

put_with_type : (d : ℕ) (os : List tree.Opening) (ts : tree.Tys) (t : tree.Ty) → put_types d os (with_type ts t) ≡ with_type (put_types d os ts) (put_type d os t)
put_with_type d os tree.Tys.none t = refl
put_with_type d os (tree.Tys.more x xs) t = ap (tree.Tys.more (put_type d os x)) (put_with_type d os xs t)

pub types_put_more : (d : ℕ) (os : List tree.Opening) (ts rs : List Ty) (i : ℕ) (e r : Ty) → i < length ts
    → types_tree rs ≡ put_types d os (types_tree (take i ts)) → type_tree r ≡ put_type d os (type_tree (get_or ts i e))
    → types_tree (rs ++ r ∷ []) ≡ put_types d os (types_tree (take (i + 1) ts))
types_put_more d os ts rs i e r l h k =
    rw (take_more ts i e l, types_tree_push (take i ts) (get_or ts i e), types_tree_push rs r, put_with_type d os (types_tree (take i ts)) (type_tree (get_or ts i e)), h, k)

put_with_term : (d : ℕ) (os : List tree.Opening) (ts : tree.Terms) (t : tree.Term) → put_terms d os (with_term ts t) ≡ with_term (put_terms d os ts) (put_term d os t)
put_with_term d os tree.Terms.none t = refl
put_with_term d os (tree.Terms.more x xs) t = ap (tree.Terms.more (put_term d os x)) (put_with_term d os xs t)

pub terms_put_more : (d : ℕ) (os : List tree.Opening) (ts rs : List Term) (i : ℕ) (e r : Term) → i < length ts
    → terms_tree rs ≡ put_terms d os (terms_tree (take i ts)) → term_tree r ≡ put_term d os (term_tree (get_or ts i e))
    → terms_tree (rs ++ r ∷ []) ≡ put_terms d os (terms_tree (take (i + 1) ts))
terms_put_more d os ts rs i e r l h k =
    rw (take_more ts i e l, terms_tree_push (take i ts) (get_or ts i e), terms_tree_push rs r, put_with_term d os (terms_tree (take i ts)) (term_tree (get_or ts i e)), h, k)

types_have_step : (n : ℕ) (ts : List Ty) (i : ℕ) (e : Ty) → i < length ts
    → types_have n (types_tree (drop i ts)) ≡ (type_has n (type_tree (get_or ts i e)) || types_have n (types_tree (drop (i + 1) ts)))
types_have_step n ts i e h = rw (drop_more ts i e h)

pub types_have_here : (n : ℕ) (ts : List Ty) (i : ℕ) (e : Ty) → i < length ts → type_has n (type_tree (get_or ts i e)) ≡ true
    → types_have n (types_tree (drop i ts)) ≡ true
types_have_here n ts i e h k = types_have_step n ts i e h ∙ ap (λ b. b || types_have n (types_tree (drop (i + 1) ts))) k

pub types_have_later : (n : ℕ) (ts : List Ty) (i : ℕ) (e : Ty) → i < length ts → type_has n (type_tree (get_or ts i e)) ≡ false
    → types_have n (types_tree (drop i ts)) ≡ types_have n (types_tree (drop (i + 1) ts))
types_have_later n ts i e h k = types_have_step n ts i e h ∙ ap (λ b. b || types_have n (types_tree (drop (i + 1) ts))) k

pub types_have_end : (n : ℕ) (ts : List Ty) (i : ℕ) → length ts ≤ i → types_have n (types_tree (drop i ts)) ≡ false
types_have_end n ts i h = rw (drop_all i ts h)

terms_have_step : (n : ℕ) (ts : List Term) (i : ℕ) (e : Term) → i < length ts
    → terms_have n (terms_tree (drop i ts)) ≡ (term_has n (term_tree (get_or ts i e)) || terms_have n (terms_tree (drop (i + 1) ts)))
terms_have_step n ts i e h = rw (drop_more ts i e h)

pub terms_have_here : (n : ℕ) (ts : List Term) (i : ℕ) (e : Term) → i < length ts → term_has n (term_tree (get_or ts i e)) ≡ true
    → terms_have n (terms_tree (drop i ts)) ≡ true
terms_have_here n ts i e h k = terms_have_step n ts i e h ∙ ap (λ b. b || terms_have n (terms_tree (drop (i + 1) ts))) k

pub terms_have_later : (n : ℕ) (ts : List Term) (i : ℕ) (e : Term) → i < length ts → term_has n (term_tree (get_or ts i e)) ≡ false
    → terms_have n (terms_tree (drop i ts)) ≡ terms_have n (terms_tree (drop (i + 1) ts))
terms_have_later n ts i e h k = terms_have_step n ts i e h ∙ ap (λ b. b || terms_have n (terms_tree (drop (i + 1) ts))) k

pub terms_have_end : (n : ℕ) (ts : List Term) (i : ℕ) → length ts ≤ i → terms_have n (terms_tree (drop i ts)) ≡ false
terms_have_end n ts i h = rw (drop_all i ts h)

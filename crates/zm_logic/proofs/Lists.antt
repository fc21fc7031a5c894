-- Measures of a list, one element further.
use Rattle.std.proofs.Common.{ℕ, ◌≡◌, ◌+◌, ◌<◌, max, List, [], ◌∷◌, ◌++◌, length, get_or, take, refl, ap, arith}
use Rattle.std.proofs.lemmas.List.{take_more}
use Rattle.std.proofs.lemmas.List.Recursion.{max_push}
use Rattle.zm_logic.specs.declared.tree.Ty.{Ty}
use Rattle.zm_logic.specs.declared.tree.Term.{Term}
use Rattle.zm_logic.specs.Tree as tree
use Rattle.zm_logic.specs.View.{type_tree, types_tree, term_tree, terms_tree}
use Rattle.zm_logic.specs.Measure.{type_size, types_size, type_depth, types_depth, term_size, terms_size, term_depth, terms_depth}
use Rattle.zm_logic.specs.Opening.{open_type, open_types, open_term, open_terms, close_type, close_types, close_term, close_terms}

types_size_push : (ts : List Ty) (t : Ty) → types_size (types_tree (ts ++ t ∷ [])) ≡ types_size (types_tree ts) + type_size (type_tree t)
types_size_push [] t = omega arith
types_size_push (x ∷ xs) t = omega (arith, types_size_push xs t)

pub types_size_more : (ts : List Ty) (i : ℕ) (d : Ty) → i < length ts
    → types_size (types_tree (take (i + 1) ts)) ≡ types_size (types_tree (take i ts)) + type_size (type_tree (get_or ts i d))
types_size_more ts i d h = rw (take_more ts i d h) (types_size_push (take i ts) (get_or ts i d))

pub types_depth_more : (ts : List Ty) (i : ℕ) (d : Ty) → i < length ts
    → types_depth (types_tree (take (i + 1) ts)) ≡ max (types_depth (types_tree (take i ts))) (type_depth (type_tree (get_or ts i d)))
types_depth_more ts i d h =
    rw (take_more ts i d h) (max_push (λ xs. types_depth (types_tree xs)) (λ x. type_depth (type_tree x)) refl (λ x xs. refl) (take i ts) (get_or ts i d))

terms_size_push : (us : List Term) (u : Term) → terms_size (terms_tree (us ++ u ∷ [])) ≡ terms_size (terms_tree us) + term_size (term_tree u)
terms_size_push [] u = omega arith
terms_size_push (x ∷ xs) u = omega (arith, terms_size_push xs u)

pub terms_size_more : (us : List Term) (i : ℕ) (d : Term) → i < length us
    → terms_size (terms_tree (take (i + 1) us)) ≡ terms_size (terms_tree (take i us)) + term_size (term_tree (get_or us i d))
terms_size_more us i d h = rw (take_more us i d h) (terms_size_push (take i us) (get_or us i d))

-- one more type at the end
abbrev pub with_type : tree.Tys → tree.Ty → tree.Tys
with_type tree.Tys.none t = tree.Tys.more t tree.Tys.none
with_type (tree.Tys.more x xs) t = tree.Tys.more x (with_type xs t)

pub types_tree_push : (ts : List Ty) (t : Ty) → types_tree (ts ++ t ∷ []) ≡ with_type (types_tree ts) (type_tree t)
types_tree_push [] t = refl
types_tree_push (x ∷ xs) t = ap (tree.Tys.more (type_tree x)) (types_tree_push xs t)

pub open_with_type : (k : ℕ) (o : tree.Opening) (ts : tree.Tys) (t : tree.Ty)
    → open_types k o (with_type ts t) ≡ with_type (open_types k o ts) (open_type k o t)
open_with_type k o tree.Tys.none t = refl
open_with_type k o (tree.Tys.more x xs) t = ap (tree.Tys.more (open_type k o x)) (open_with_type k o xs t)

-- a list of opened types, one element further
pub types_open_more : (k : ℕ) (o : tree.Opening) (ts rs : List Ty) (i : ℕ) (d r : Ty) → i < length ts
    → types_tree rs ≡ open_types k o (types_tree (take i ts)) → type_tree r ≡ open_type k o (type_tree (get_or ts i d))
    → types_tree (rs ++ r ∷ []) ≡ open_types k o (types_tree (take (i + 1) ts))
types_open_more k o ts rs i d r l h e =
    rw (take_more ts i d l, types_tree_push (take i ts) (get_or ts i d), types_tree_push rs r, open_with_type k o (types_tree (take i ts)) (type_tree (get_or ts i d)), h, e)

pub close_with_type : (k n : ℕ) (ts : tree.Tys) (t : tree.Ty)
    → close_types k n (with_type ts t) ≡ with_type (close_types k n ts) (close_type k n t)
close_with_type k n tree.Tys.none t = refl
close_with_type k n (tree.Tys.more x xs) t = ap (tree.Tys.more (close_type k n x)) (close_with_type k n xs t)

pub types_close_more : (k n : ℕ) (ts rs : List Ty) (i : ℕ) (d r : Ty) → i < length ts
    → types_tree rs ≡ close_types k n (types_tree (take i ts)) → type_tree r ≡ close_type k n (type_tree (get_or ts i d))
    → types_tree (rs ++ r ∷ []) ≡ close_types k n (types_tree (take (i + 1) ts))
types_close_more k n ts rs i d r l h e =
    rw (take_more ts i d l, types_tree_push (take i ts) (get_or ts i d), types_tree_push rs r, close_with_type k n (types_tree (take i ts)) (type_tree (get_or ts i d)), h, e)

pub terms_depth_more : (us : List Term) (i : ℕ) (d : Term) → i < length us
    → terms_depth (terms_tree (take (i + 1) us)) ≡ max (terms_depth (terms_tree (take i us))) (term_depth (term_tree (get_or us i d)))
terms_depth_more us i d h =
    rw (take_more us i d h) (max_push (λ xs. terms_depth (terms_tree xs)) (λ x. term_depth (term_tree x)) refl (λ x xs. refl) (take i us) (get_or us i d))

-- one more term at the end
abbrev pub with_term : tree.Terms → tree.Term → tree.Terms
with_term tree.Terms.none t = tree.Terms.more t tree.Terms.none
with_term (tree.Terms.more x xs) t = tree.Terms.more x (with_term xs t)

pub terms_tree_push : (us : List Term) (u : Term) → terms_tree (us ++ u ∷ []) ≡ with_term (terms_tree us) (term_tree u)
terms_tree_push [] u = refl
terms_tree_push (x ∷ xs) u = ap (tree.Terms.more (term_tree x)) (terms_tree_push xs u)

pub open_with_term : (k : ℕ) (o : tree.Opening) (us : tree.Terms) (u : tree.Term)
    → open_terms k o (with_term us u) ≡ with_term (open_terms k o us) (open_term k o u)
open_with_term k o tree.Terms.none u = refl
open_with_term k o (tree.Terms.more x xs) u = ap (tree.Terms.more (open_term k o x)) (open_with_term k o xs u)

pub terms_open_more : (k : ℕ) (o : tree.Opening) (us rs : List Term) (i : ℕ) (d r : Term) → i < length us
    → terms_tree rs ≡ open_terms k o (terms_tree (take i us)) → term_tree r ≡ open_term k o (term_tree (get_or us i d))
    → terms_tree (rs ++ r ∷ []) ≡ open_terms k o (terms_tree (take (i + 1) us))
terms_open_more k o us rs i d r l h e =
    rw (take_more us i d l, terms_tree_push (take i us) (get_or us i d), terms_tree_push rs r, open_with_term k o (terms_tree (take i us)) (term_tree (get_or us i d)), h, e)

pub close_with_term : (k n : ℕ) (us : tree.Terms) (u : tree.Term)
    → close_terms k n (with_term us u) ≡ with_term (close_terms k n us) (close_term k n u)
close_with_term k n tree.Terms.none u = refl
close_with_term k n (tree.Terms.more x xs) u = ap (tree.Terms.more (close_term k n x)) (close_with_term k n xs u)

pub terms_close_more : (k n : ℕ) (us rs : List Term) (i : ℕ) (d r : Term) → i < length us
    → terms_tree rs ≡ close_terms k n (terms_tree (take i us)) → term_tree r ≡ close_term k n (term_tree (get_or us i d))
    → terms_tree (rs ++ r ∷ []) ≡ close_terms k n (terms_tree (take (i + 1) us))
terms_close_more k n us rs i d r l h e =
    rw (take_more us i d l, terms_tree_push (take i us) (get_or us i d), terms_tree_push rs r, close_with_term k n (terms_tree (take i us)) (term_tree (get_or us i d)), h, e)

-- How deep a list of types or terms is, one further; and how deep a formula under quantifiers is.
use Rattle.std.proofs.Common.{ℕ, ◌≡◌, ◌+◌, ◌<◌, max, List, [], ◌∷◌, ◌++◌, length, get_or, take, refl, sym, ◌∙◌, ap}
use Rattle.std.specs.Prelude.{map}
use Rattle.std.proofs.lemmas.List.{take_more}
use Rattle.std.proofs.lemmas.List.Recursion.{max_push}
use Rattle.tptp_reader.specs.declared.tree.RawType.{RawType}
use Rattle.tptp_reader.specs.declared.tree.RawTerm.{RawTerm}
use Rattle.tptp_reader.specs.declared.tree.RawVar.{RawVar}
use Rattle.tptp_reader.specs.Raw.{raw_type_depth, raw_types_depth, raw_term_depth, raw_terms_depth, Quantifier}
use Rattle.tptp_reader.specs.View.{raw_type_tree, raw_types_tree, raw_term_tree, raw_terms_tree, raw_variable_tree}
use Rattle.tptp_reader.specs.SlowForms.{Values, bound_all}

pub types_depth_more : (ts : List RawType) (i : ℕ) (d : RawType) → i < length ts
    → raw_types_depth (raw_types_tree (take (i + 1) ts)) ≡ max (raw_types_depth (raw_types_tree (take i ts))) (raw_type_depth (raw_type_tree (get_or ts i d)))
types_depth_more ts i d h =
    rw (take_more ts i d h) (max_push (λ xs. raw_types_depth (raw_types_tree xs)) (λ x. raw_type_depth (raw_type_tree x)) refl (λ x xs. refl) (take i ts) (get_or ts i d))

pub terms_depth_more : (us : List RawTerm) (i : ℕ) (d : RawTerm) → i < length us
    → raw_terms_depth (raw_terms_tree (take (i + 1) us)) ≡ max (raw_terms_depth (raw_terms_tree (take i us))) (raw_term_depth (raw_term_tree (get_or us i d)))
terms_depth_more us i d h =
    rw (take_more us i d h) (max_push (λ xs. raw_terms_depth (raw_terms_tree xs)) (λ x. raw_term_depth (raw_term_tree x)) refl (λ x xs. refl) (take i us) (get_or us i d))

-- the last variable is the innermost
pub bound_last : {A : Type 0} (v : Values A) (q : Quantifier) (xs : List RawVar) (x : RawVar) (a : A) → bound_all v q (map raw_variable_tree (xs ++ x ∷ [])) a ≡ bound_all v q (map raw_variable_tree xs) (v.of_bound q (raw_variable_tree x) a)
bound_last v q [] x a = refl
bound_last v q (y ∷ ys) x a = ap (v.of_bound q (raw_variable_tree y)) (bound_last v q ys x a)

-- one turn of the loop over the variables
pub bound_loop : {A : Type 0} (v : Values A) (q : Quantifier) (all xs : List RawVar) (x : RawVar) (a b start : A) → all ≡ xs ++ x ∷ [] → b ≡ v.of_bound q (raw_variable_tree x) a → bound_all v q (map raw_variable_tree all) a ≡ start → bound_all v q (map raw_variable_tree xs) b ≡ start
bound_loop v q all xs x a b start e w same =
    ap (bound_all v q (map raw_variable_tree xs)) w ∙ sym (bound_last v q xs x a) ∙ sym (ap (λ ys. bound_all v q (map raw_variable_tree ys) a) e) ∙ same

-- The term of a node's rule, from the terms of its children.
use Rattle.std.proofs.Common.{◌≡◌, ◌≤◌, List, [], ◌∷◌, length, slice_index_or, ap, sym, ◌∙◌, subst, arith}
use Rattle.std.specs.Prelude.{Option}
use Rattle.lp_terms.specs.Term.{Lp}
use Rattle.lp_terms.specs.View.{term_of, terms_of}
use Rattle.lp_terms.specs.declared.term.Lp as code
use Rattle.zm_logic.specs.Tree.{Form, Opening}
use Rattle.lp_signature.specs.ProofTerms as by
use Rattle.sequent_proof.specs.Rules.{RuleName}
use Rattle.sequent_proof.specs.Tree.{DTrees}
use Rattle.sequent_proof.specs.View.{trees_of}
use Rattle.sequent_proof.specs.declared.tree.DTree as tree
use Rattle.lp_translation.specs.declared.place.Place.{Place}
use Rattle.lp_translation.specs.ViewPlace.{symbols_at, written, rule_at}
use Rattle.lp_translation.specs.ViewRules.{negated, left_of, right_of, proved, second_proved, equal_arguments_by, equal_values_by}
use Rattle.lp_translation.specs.ViewArguments.{HasArguments, HasValues, equalities_in}
use Rattle.lp_translation.specs.ViewDerivation.{IsNode, least_children}
use Rattle.lp_translation.proofs.BuildingNodes.{above_count}
use Rattle.lp_translation.proofs.BuildingChildren.{trees_count}
use Rattle.lp_translation.proofs.BuildingRules.{not_not_is, not_or_is, not_imp_is, not_and_is, not_iff_is}
use Rattle.lp_translation.proofs.BuildingArguments.{equal_arguments_is, equal_arguments_count, equal_values_is, equal_values_count}

module _ (p : Place) (a : Form) (b : Option Form) (w : Option Opening) where
  -- the term of a rule by its first child, or its first two
  one_child : (name : RuleName) (rs : List code.Lp) (r : code.Lp) (value : Lp) → 1 ≤ length rs → r ≡ slice_index_or rs 0 r
      → ((rest : List Lp) → rule_at p name a b w (term_of r ∷ rest) ≡ value) → value ≡ rule_at p name a b w (terms_of rs)
  one_child name [] r value l e f = absurd (omega (arith, l))
  one_child name (x ∷ xs) r value l e f =
      sym (f (terms_of xs)) ∙ ap (λ (y : code.Lp). rule_at p name a b w (term_of y ∷ terms_of xs)) e

  two_children : (name : RuleName) (rs : List code.Lp) (r q : code.Lp) (value : Lp) → 2 ≤ length rs → r ≡ slice_index_or rs 0 r → q ≡ slice_index_or rs 1 q
      → ((rest : List Lp) → rule_at p name a b w (term_of r ∷ term_of q ∷ rest) ≡ value) → value ≡ rule_at p name a b w (terms_of rs)
  two_children name [] r q value l e k f = absurd (omega (arith, l))
  two_children name (x ∷ []) r q value l e k f = absurd (omega (arith, l))
  two_children name (x ∷ y ∷ xs) r q value l e k f =
      sym (f (terms_of xs)) ∙ ap (λ (z : code.Lp). rule_at p name a b w (term_of z ∷ term_of q ∷ terms_of xs)) e
      ∙ ap (λ (z : code.Lp). rule_at p name a b w (term_of x ∷ term_of z ∷ terms_of xs)) k

  module _ (ts : DTrees) (rs : List code.Lp) (name : RuleName) (node : IsNode (symbols_at p) name a b w ts) (enough : least_children name ≤ length rs) where
    -- the node, its rule being known
    as_known : (known : RuleName) → name ≡ known → IsNode (symbols_at p) known a b w ts
    as_known known is = subst (λ (n : RuleName). IsNode (symbols_at p) n a b w ts) is node

    known_least : (known : RuleName) → name ≡ known → least_children known ≤ length rs
    known_least known is = subst (λ (n : RuleName). least_children n ≤ length rs) is enough

    as_named : (known : RuleName) (value : Lp) → name ≡ known → value ≡ rule_at p known a b w (terms_of rs) → value ≡ rule_at p name a b w (terms_of rs)
    as_named known value is e = e ∙ ap (λ (n : RuleName). rule_at p n a b w (terms_of rs)) (sym is)

    pub not_not_at : (r : code.Lp) → name ≡ RuleName.not_not → r ≡ slice_index_or rs 0 r
        → by.not_not_term p.next (proved p a) (written p (negated (negated a))) (term_of r) ≡ rule_at p name a b w (terms_of rs)
    not_not_at r is at =
        let known = as_known RuleName.not_not is in
        let least : 1 ≤ length rs = known_least RuleName.not_not is in
        let value = by.not_not_term p.next (proved p a) (written p (negated (negated a))) (term_of r) in
        as_named RuleName.not_not value is
        (one_child RuleName.not_not rs r value least at
        (λ (rest : List Lp). not_not_is p (symbols_at p) known.0 known.1.0 a b w known.1.1.0 (term_of r) rest known.1.1.1.0))

    pub not_or_at : (r : code.Lp) → name ≡ RuleName.not_or → r ≡ slice_index_or rs 0 r
        → by.not_or_term p.next (proved p a) (written p (left_of (negated a))) (written p (right_of (negated a))) (term_of r) ≡ rule_at p name a b w (terms_of rs)
    not_or_at r is at =
        let known = as_known RuleName.not_or is in
        let least : 1 ≤ length rs = known_least RuleName.not_or is in
        let value = by.not_or_term p.next (proved p a) (written p (left_of (negated a))) (written p (right_of (negated a))) (term_of r) in
        as_named RuleName.not_or value is
        (one_child RuleName.not_or rs r value least at
        (λ (rest : List Lp). not_or_is p (symbols_at p) known.0 known.1.0 a b w known.1.1.0 (term_of r) rest known.1.1.1.0))

    pub not_imp_at : (r : code.Lp) → name ≡ RuleName.not_implies → r ≡ slice_index_or rs 0 r
        → by.not_imp_term p.next (proved p a) (written p (left_of (negated a))) (written p (right_of (negated a))) (term_of r) ≡ rule_at p name a b w (terms_of rs)
    not_imp_at r is at =
        let known = as_known RuleName.not_implies is in
        let least : 1 ≤ length rs = known_least RuleName.not_implies is in
        let value = by.not_imp_term p.next (proved p a) (written p (left_of (negated a))) (written p (right_of (negated a))) (term_of r) in
        as_named RuleName.not_implies value is
        (one_child RuleName.not_implies rs r value least at
        (λ (rest : List Lp). not_imp_is p (symbols_at p) known.0 known.1.0 a b w known.1.1.0 (term_of r) rest known.1.1.1.0))

    pub not_and_at : (r q : code.Lp) → name ≡ RuleName.not_and → r ≡ slice_index_or rs 0 r → q ≡ slice_index_or rs 1 q
        → by.not_and_term p.next (proved p a) (written p (left_of (negated a))) (written p (right_of (negated a))) (term_of r) (term_of q)
        ≡ rule_at p name a b w (terms_of rs)
    not_and_at r q is at next =
        let known = as_known RuleName.not_and is in
        let least : 2 ≤ length rs = known_least RuleName.not_and is in
        let value = by.not_and_term p.next (proved p a) (written p (left_of (negated a))) (written p (right_of (negated a))) (term_of r) (term_of q) in
        as_named RuleName.not_and value is
        (two_children RuleName.not_and rs r q value least at next
        (λ (rest : List Lp). not_and_is p (symbols_at p) known.0 known.1.0 a b w known.1.1.0 (term_of r) (term_of q) rest known.1.1.1.0))

    pub not_iff_at : (r q : code.Lp) → name ≡ RuleName.not_iff → r ≡ slice_index_or rs 0 r → q ≡ slice_index_or rs 1 q
        → by.not_iff_term p.next (proved p a) (written p (left_of (negated a))) (written p (right_of (negated a))) (term_of r) (term_of q)
        ≡ rule_at p name a b w (terms_of rs)
    not_iff_at r q is at next =
        let known = as_known RuleName.not_iff is in
        let least : 2 ≤ length rs = known_least RuleName.not_iff is in
        let value = by.not_iff_term p.next (proved p a) (written p (left_of (negated a))) (written p (right_of (negated a))) (term_of r) (term_of q) in
        as_named RuleName.not_iff value is
        (two_children RuleName.not_iff rs r q value least at next
        (λ (rest : List Lp). not_iff_is p (symbols_at p) known.0 known.1.0 a b w known.1.1.0 (term_of r) (term_of q) rest known.1.1.1.0))

    pub eq_pred_at : name ≡ RuleName.equal_arguments
        → equal_arguments_by p (proved p a) (second_proved p b) a (equalities_in ts) (terms_of rs) ≡ rule_at p name a b w (terms_of rs)
    eq_pred_at is =
        let known = as_known RuleName.equal_arguments is in
        as_named RuleName.equal_arguments (equal_arguments_by p (proved p a) (second_proved p b) a (equalities_in ts) (terms_of rs)) is
        (sym (equal_arguments_is p known.0 known.1.0 a b w known.1.1.0 ts (terms_of rs) known.1.1.1.0 known.1.1.1.1))

    pub eq_fun_at : name ≡ RuleName.equal_values
        → equal_values_by p (proved p a) (negated a) (equalities_in ts) (terms_of rs) ≡ rule_at p name a b w (terms_of rs)
    eq_fun_at is =
        let known = as_known RuleName.equal_values is in
        as_named RuleName.equal_values (equal_values_by p (proved p a) (negated a) (equalities_in ts) (terms_of rs)) is
        (sym (equal_values_is p known.0 known.1.0 a b w known.1.1.0 ts (terms_of rs) known.1.1.1.0 known.1.1.1.1))

  -- one child for each argument
  module _ (xs : List tree.DTree) (name : RuleName) (node : IsNode (symbols_at p) name a b w (trees_of xs)) where
    children_are : (known : RuleName) (k : IsNode (symbols_at p) known a b w (trees_of xs)) → length xs ≡ length k.1.1.0
    children_are known k = sym (trees_count xs) ∙ above_count (symbols_at p) k.0 k.1.0 k.1.1.0 (trees_of xs) k.1.1.1.1

    pub eq_pred_count : name ≡ RuleName.equal_arguments → HasArguments (length xs) a
    eq_pred_count is =
        let known = subst (λ (n : RuleName). IsNode (symbols_at p) n a b w (trees_of xs)) is node in
        equal_arguments_count p known.0 known.1.0 a b w known.1.1.0 (length xs) known.1.1.1.0 (children_are RuleName.equal_arguments known)

    pub eq_fun_count : name ≡ RuleName.equal_values → HasValues (length xs) (negated a)
    eq_fun_count is =
        let known = subst (λ (n : RuleName). IsNode (symbols_at p) n a b w (trees_of xs)) is node in
        equal_values_count p known.0 known.1.0 a b w known.1.1.0 (length xs) known.1.1.1.0 (children_are RuleName.equal_values known)

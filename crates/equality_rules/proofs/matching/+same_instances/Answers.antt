use Rattle.std.proofs.Common.{◌≡◌, false, get_or, length, sym, ap, ◌∙◌, inl, inr, arith}
use Rattle.zm_logic.specs.View.{type_tree, types_tree}
use Rattle.zm_logic.specs.Same.{same_type, same_types}
use Rattle.term_store.specs.Trees.{all_trees}
use Rattle.term_store.specs.Node.{types_at}
use Rattle.equality_rules.specs.Heads.{instance_at, instances_at}
use Rattle.equality_rules.proofs.Folds.{tree_bound, tree_param, tree_meta, tree_con}
use Rattle.equality_rules.proofs.Standing.{standing_below, stands_below}
use Rattle.equality_rules.proofs.Matches.{bound_none, right_some, bound_right, con_right, left_some, no_con, param_both, meta_both}
use Rattle.equality_rules.proofs.Pairwise.{pairs_unequal, pairs_end, pairs_no}
use Rattle.equality_rules.proofs.Lists.{both_test, both_pairwise}
use Rattle.equality_rules.proofs.matching.+same_instances.Goals as goal

pub all_same_instances-returns-then-lefts-rights :
    goal.all_same_instances-returns-then-lefts-rights
all_same_instances-returns-then-lefts-rights t c =
    let T = (all_trees c.args.store.now).types in
    let ss = types_at T c.args.left_types.now in
    let ts = types_at T c.args.right_types.now in
    sym (both_pairwise ss ts c.args.lefts.now c.args.rights.now
    ∙ pairs_unequal (both_test ss ts) c.args.lefts.now c.args.rights.now
    (λ e. c.if-lefts-rights.true (ap length c.as_slice-lefts.ensures ∙ e ∙ ap length (sym c.as_slice-rights.ensures))))

pub same_instances-is_instance-requires-clause-has :
    goal.same_instances-is_instance-requires-clause-has
same_instances-is_instance-requires-clause-has t c =
    stands_below (length c.args.store.now.types) (type_tree c.args.right.now) c.args.right_types.now c.in-Some.ty c.requires.below_right (sym c.stands.ensures ∙ c.in-Some.is)

pub same_instances-returns-in-Some : goal.same_instances-returns-in-Some
same_instances-returns-in-Some t c =
    let T = (all_trees c.args.store.now).types in
    c.is_instance.ensures
    ∙ right_some T c.args.right_types.now (type_tree c.args.right.now) (instance_at (types_at T c.args.left_types.now) (type_tree c.args.left.now)) c.in-Some.ty
    (sym c.stands.ensures ∙ c.in-Some.is)

pub same_instances-is_instance-requires-in-Some-standing_for-clause-has :
    goal.same_instances-is_instance-requires-in-Some-standing_for-clause-has
same_instances-is_instance-requires-in-Some-standing_for-clause-has t c =
    standing_below (length c.args.store.now.types) c.args.left_types.now c.in-Bound.index c.in-Some-standing_for.ty c.requires.below (sym c.standing_for.ensures ∙ c.in-Some-standing_for.is)

pub same_instances-returns-in-Some-standing_for : goal.same_instances-returns-in-Some-standing_for
same_instances-returns-in-Some-standing_for t c =
    let T = (all_trees c.args.store.now).types in
    c.is_instance-in-Some-standing_for.ensures
    ∙ left_some T c.args.left_types.now (type_tree c.args.left.now) c.in-Bound.index c.in-Some-standing_for.ty
    (instance_at (types_at T c.args.right_types.now) (type_tree c.args.right.now))
    (ap type_tree c.in-Bound.is ∙ tree_bound c.in-Bound.index) (sym c.standing_for.ensures ∙ c.in-Some-standing_for.is)

pub same_instances-returns-in-None : goal.same_instances-returns-in-None
same_instances-returns-in-None t c =
    let T = (all_trees c.args.store.now).types in
    c.is_loose.ensures
    ∙ bound_right T c.args.right_types.now c.in-Bound.index (type_tree c.args.right.now) (sym c.stands.ensures ∙ c.in_default.is)
    ∙ bound_none T c.args.left_types.now (type_tree c.args.left.now) c.in-Bound.index (instance_at (types_at T c.args.right_types.now) (type_tree c.args.right.now))
    (ap type_tree c.in-Bound.is ∙ tree_bound c.in-Bound.index) (sym c.standing_for.ensures ∙ c.in-None.is)

pub same_instances-returns-in-Bound-right : goal.same_instances-returns-in-Bound-right
same_instances-returns-in-Bound-right t c =
    let T = (all_trees c.args.store.now).types in
    let ss = types_at T c.args.left_types.now in
    let left = ap (λ x. instance_at ss (type_tree x)) c.in-Con.is ∙ ap (instance_at ss) (tree_con c.in-Con.symbol c.in-Con.arguments) in
    let right = instance_at (types_at T c.args.right_types.now) (type_tree c.args.right.now) in
    let loose = sym c.stands.ensures ∙ c.in_default.is in
    con_right T c.args.right_types.now c.in-Con.symbol.0 (instances_at ss (types_tree c.in-Con.arguments)) (type_tree c.args.right.now) loose (no_con c.args.right.now c.in-Bound-right.is)
    ∙ ap (λ x. same_type x right) (sym left)

pub same_instances-returns-in-Param : goal.same_instances-returns-in-Param
same_instances-returns-in-Param t c =
    let T = (all_trees c.args.store.now).types in
    let ss = types_at T c.args.left_types.now in
    let ts = c.args.right_types.now in
    let r = type_tree c.args.right.now in
    let loose = sym c.stands.ensures ∙ c.in_default.is in
    c.same.ensures
    ∙ elim c.in-Param.is [
      | inl x ↦ param_both T ts ss x.0 (type_tree c.args.left.now) r (ap type_tree x.1 ∙ tree_param x.0) loose
      | inr x ↦ meta_both T ts ss x.0 (type_tree c.args.left.now) r (ap type_tree x.1 ∙ tree_meta x.0) loose
    ]

pub all_same_instances-returns-then-not-same_instances :
    goal.all_same_instances-returns-then-not-same_instances
all_same_instances-returns-then-not-same_instances t c =
    let T = (all_trees c.args.store.now).types in
    let ss = types_at T c.args.left_types.now in
    let ts = types_at T c.args.right_types.now in
    let xs = c.as_slice-lefts.result.now in
    let ys = c.as_slice-rights.result.now in
    let i = c.loop-i.i in
    let l = c.index-lefts-i.result in
    let r = c.index-rights-i.result in
    let left : get_or xs i l ≡ l = sym c.index-lefts-i.is in
    let right : get_or ys i r ≡ r = sym c.index-rights-i.is in
    let no : both_test ss ts (get_or xs i l) (get_or ys i r) ≡ false =
    ap (λ x. both_test ss ts x (get_or ys i r)) left ∙ ap (both_test ss ts l) right ∙ sym c.same_instances.ensures ∙ c.if-not-same_instances.true in
    sym (ap (λ z. same_types (instances_at ss (types_tree z)) (instances_at ts (types_tree c.args.rights.now))) (sym c.as_slice-lefts.ensures)
    ∙ ap (λ z. same_types (instances_at ss (types_tree xs)) (instances_at ts (types_tree z))) (sym c.as_slice-rights.ensures)
    ∙ both_pairwise ss ts xs ys ∙ sym c.loop-i.invariant.rest
    ∙ pairs_no (both_test ss ts) xs ys i l r (omega (arith, c.loop-i-test.true)) (omega (arith, c.loop-i-test.true, c.loop-i.invariant.lengths)) no)

pub all_same_instances-returns : goal.all_same_instances-returns
all_same_instances-returns t c =
    let T = (all_trees c.args.store.now).types in
    let ss = types_at T c.args.left_types.now in
    let ts = types_at T c.args.right_types.now in
    let xs = c.as_slice-lefts.result.now in
    let ys = c.as_slice-rights.result.now in
    sym (ap (λ z. same_types (instances_at ss (types_tree z)) (instances_at ts (types_tree c.args.rights.now))) (sym c.as_slice-lefts.ensures)
    ∙ ap (λ z. same_types (instances_at ss (types_tree xs)) (instances_at ts (types_tree z))) (sym c.as_slice-rights.ensures)
    ∙ both_pairwise ss ts xs ys ∙ sym c.loop-i.invariant.rest
    ∙ pairs_end (both_test ss ts) xs ys c.loop-i.i (omega (arith, c.loop-i-test.false)) (omega (arith, c.loop-i-test.false, c.loop-i.invariant.lengths)))

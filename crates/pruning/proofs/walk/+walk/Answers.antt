use Rattle.std.proofs.Common.{ap, arith, sym, subst, ◌∙◌, map, List, inl, inr}
use Rattle.std.proofs.lemmas.Result.{IfOk-weaker}
use Rattle.param_store.specs.View.{HasForms}
use Rattle.branch.specs.Ids.{node_ids, child_ids}
use Rattle.branch.specs.declared.node.Child.{Child}
use Rattle.pruning.specs.Walked.{IsWalked, IsTaken, AreWalked}
use Rattle.pruning.proofs.Walked.{raw_held, normal_held, node_held, node_finished, weight_at, some_walked, none_walked, node_step, node_closed, node_open, node_skipped}
use Rattle.pruning.proofs.walk.+walk.Goals as goal

pub walk-returns-in_ok-below-in-Step-clause-walked : goal.walk-returns-in_ok-below-in-Step-clause-walked
walk-returns-in_ok-below-in-Step-clause-walked t c =
    let s = c.args.store.now in
    let b = c.args.branch.now in
    let cs : List Child = c.in-Step.children.items in
    IfOk-weaker c.step.result _ (IsWalked s b (node_ids c.args.node.now))
    (λ w h. subst (λ n. IsWalked s b n w) (sym (ap node_ids c.in-Step.is ∙ node_step c.in-Step.pick c.in-Step.kind c.in-Step.act c.in-Step.children))
    (h c.in-Step.pick c.in-Step.kind b (map child_ids cs)
    (subst (λ xs. AreWalked s b (map child_ids xs) c.in_ok-below-in-Step.below) c.as_slice.ensures.value c.in_ok-below-in-Step.ensures.walked))) c.step.ensures

pub walk-returns-in-Closed-clause-walked : goal.walk-returns-in-Closed-clause-walked
walk-returns-in-Closed-clause-walked t c =
    let s = c.args.store.now in
    let b = c.args.branch.now in
    IfOk-weaker c.leaf.result _ (IsWalked s b (node_ids c.args.node.now))
    (λ w h. subst (λ n. IsWalked s b n w) (sym (ap node_ids c.in-Closed.is ∙ node_closed c.in-Closed.pair)) (h b)) c.leaf.ensures

pub walk-returns-in-Open-clause-walked : goal.walk-returns-in-Open-clause-walked
walk-returns-in-Open-clause-walked t c =
    let s = c.args.store.now in
    let b = c.args.branch.now in
    elim c.in-Open.is [
      | inl e ↦ subst (λ n. IsWalked s b n c.nothing.result) (sym (ap node_ids e ∙ node_open)) (c.nothing.ensures s b).0
      | inr e ↦ subst (λ n. IsWalked s b n c.nothing.result) (sym (ap node_ids e ∙ node_skipped)) (c.nothing.ensures s b).1
    ]

pub walk_children-returns-in-Some-clause-walked : goal.walk_children-returns-in-Some-clause-walked
walk_children-returns-in-Some-clause-walked t c =
    some_walked c.args.store.now c.args.branch.now c.loop-child.branch c.args.children.now c.loop-child.child-index c.child-item.result c.loop-child.used c.walk_child.new.used
    c.in_ok-taken.taken c.in-Some.idle c.loop-child.invariant.branch c.loop-child-test.true c.loop-child.invariant.used
    (subst (λ y. IsTaken c.args.store.now c.loop-child.branch (child_ids y) c.loop-child.used c.walk_child.new.used c.in_ok-taken.taken) c.child-item.is c.in_ok-taken.ensures.taken) c.in-Some.is

pub walk_children-loop-child-preserved : goal.walk_children-loop-child-preserved
walk_children-loop-child-preserved t c = record {
  branch = c.in_ok-taken.ensures.branch ∙ c.loop-child.invariant.branch;
  used = none_walked c.args.store.now c.loop-child.branch c.walk_child.new.branch c.args.children.now c.loop-child.child-index c.child-item.result c.loop-child.used c.walk_child.new.used
      c.in_ok-taken.taken c.in_ok-taken.ensures.branch c.loop-child-test.true c.loop-child.invariant.used
      (subst (λ y. IsTaken c.args.store.now c.loop-child.branch (child_ids y) c.loop-child.used c.walk_child.new.used c.in_ok-taken.taken) c.child-item.is c.in_ok-taken.ensures.taken) c.in-None.is;
}

pub walk_children-walk_child-requires : goal.walk_children-walk_child-requires
walk_children-walk_child-requires t c =
    let s = c.args.store.now in
    let xs = c.args.children.now in
    let i = c.loop-child.child-index in
    let x = c.child-item.result in
    let less = weight_at xs i x c.loop-child-test.true c.child-item.is in (
      omega (arith, less, c.decreases),
      (
        subst (HasForms s) (sym c.loop-child.invariant.branch) c.requires.branch,
        (
          raw_held s xs i x c.child-item.is c.loop-child-test.true c.requires.children c.requires.finished,
          (
            normal_held s xs i x c.child-item.is c.loop-child-test.true c.requires.children c.requires.finished,
            (
              node_held s xs i x c.child-item.is c.loop-child-test.true c.requires.children c.requires.finished,
              node_finished s xs i x c.child-item.is c.loop-child-test.true c.requires.children c.requires.finished,
            ),
          ),
        ),
      ),
    )

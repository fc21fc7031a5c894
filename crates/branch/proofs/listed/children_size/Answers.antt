use Rattle.std.proofs.Common.{get_or, take, ap, sym, subst, ◌∙◌}
use Rattle.param_store.specs.View.{forms_of, lists_of, HasForms}
use Rattle.branch.specs.Listed.{capped, forms_size, lists_size}
use Rattle.branch.proofs.Sizing.{capped_sum, lists_size_more}
use Rattle.branch.proofs.Useful.{forms_at_place}
use Rattle.branch.proofs.listed.children_size.Goals as goal

pub child_size-requires-clause-has : goal.child_size-requires-clause-has
child_size-requires-clause-has c =
    let s = c.args.store.now in
    subst (HasForms s) (sym (c.as_slice.ensures ∙ c.child-item.is))
    (forms_at_place s c.args.children.now c.loop-child.child-index c.child-item.result c.loop-child-test.true c.requires.has)

pub loop-child-preserved : goal.loop-child-preserved
loop-child-preserved c =
    let s = c.args.store.now in
    let children = c.args.children.now in
    let i = c.loop-child.child-index in
    let d = c.child-item.result in
    let value = c.in_ok-size.ensures.value ∙ ap (λ ids. capped (forms_size (forms_of s ids))) (c.as_slice.ensures ∙ c.child-item.is) in
    let sum = capped_sum c.loop-child.all c.in_ok-size.size (lists_size (lists_of s (take i children))) (forms_size (forms_of s (get_or children i d)))
    c.loop-child.invariant.sized value in
    record {
      sized = c.saturating_add-all.ensures ∙ (sum ∙ sym (ap capped (lists_size_more s children i d c.loop-child-test.true)));
      knows = c.in_ok-size.ensures.knows;
    }

use Rattle.std.proofs.Common.{sym, subst, ◌∙◌}
use Rattle.param_store.specs.View.{HasForms}
use Rattle.branch.proofs.Useful.{forms_at_place}
use Rattle.branch.proofs.listed.has_some.Goals as goal

pub has_all-requires-clause-has_child : goal.has_all-requires-clause-has_child
has_all-requires-clause-has_child c =
    let s = c.args.store.now in
    subst (HasForms s) (sym (c.as_slice.ensures ∙ c.child-item.is))
    (forms_at_place s c.args.children.now c.loop-child.child-index c.child-item.result c.loop-child-test.true c.requires.has_children)

use Rattle.std.proofs.Common.{ap, ◌∙◌}
use Rattle.param_store.specs.View.{forms_of}
use Rattle.branch.specs.Branch.{closing}
use Rattle.branch.proofs.Noted.{added_front, added_longer}
use Rattle.branch.proofs.stepping.leaf_below.Goals as goal

pub leaf_of-requires-clause-within : goal.leaf_of-requires-clause-within
leaf_of-requires-clause-within c =
    let s = c.args.store.now in
    added_longer s c.as_slice-branch.result.now c.in_ok-forms.forms (forms_of s c.args.first.now) c.in_ok-forms.ensures.forms

pub leaf_of-requires-clause-unclosed : goal.leaf_of-requires-clause-unclosed
leaf_of-requires-clause-unclosed c =
    let s = c.args.store.now in
    ap closing (added_front s c.as_slice-branch.result.now c.in_ok-forms.forms (forms_of s c.args.first.now) c.in_ok-forms.ensures.forms)
    ∙ ap (λ ids. closing (forms_of s ids)) c.as_slice-branch.ensures ∙ c.requires.unclosed

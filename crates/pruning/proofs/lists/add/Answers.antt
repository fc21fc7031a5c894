use Rattle.std.proofs.Common.{◌≡◌, false, sym, ap, ◌∙◌, subst}
use Rattle.zm_logic.specs.Same.{has}
use Rattle.term_store.specs.Trees.{form_of}
use Rattle.param_store.specs.View.{forms_of, HasForms}
use Rattle.branch.proofs.Held.{held_push}
use Rattle.branch.proofs.Entered.{pushed_is}
use Rattle.pruning.proofs.Ids.{push_front}
use Rattle.pruning.proofs.lists.add.Goals as goal

pub returns-clause-forms : goal.returns-clause-forms
returns-clause-forms c =
    let s = c.args.store.now in
    let f = c.args.form in
    let lacks : has (forms_of s c.args.forms.now) (form_of s f) ≡ false =
    ap (λ ids. has (forms_of s ids) (form_of s f)) (sym c.as_slice.ensures) ∙ (sym c.has.ensures ∙ c.if-has.false) in
    ap (forms_of s) c.in_ok-push.ensures.ok ∙ pushed_is s c.args.forms.now f lacks

pub returns-clause-has : goal.returns-clause-has
returns-clause-has c =
    subst (HasForms c.args.store.now) (sym c.in_ok-push.ensures.ok) (held_push c.args.store.now c.args.forms.now c.args.form c.requires.forms c.requires.form)

pub returns-clause-kept : goal.returns-clause-kept
returns-clause-kept c = push_front c.args.forms.now c.push.new.self c.args.form c.in_ok-push.ensures.ok

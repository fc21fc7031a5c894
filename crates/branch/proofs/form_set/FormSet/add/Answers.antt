use Rattle.std.proofs.Common.{ap, sym, subst, ◌∙◌}
use Rattle.std.proofs.lemmas.Result.{on_ok_weaker}
use Rattle.param_store.specs.View.{forms_of, HasForms}
use Rattle.param_store.proofs.Numbers.{has_with}
use Rattle.branch.proofs.Entered.{with_is}
use Rattle.branch.proofs.Outcomes.{on_either}
use Rattle.branch.proofs.form_set.FormSet.add.Goals as goal

pub returns-clause-forms : goal.returns-clause-forms
returns-clause-forms c =
    let s = c.args.store.now in
    on_ok_weaker c.add_id.result
    (λ e. ap (forms_of s) e ∙ with_is s c.shared.ensures c.args.self.now c.args.form c.requires.forms c.requires.form)
    c.add_id.ensures.ids

pub returns-clause-has : goal.returns-clause-has
returns-clause-has c =
    let s = c.args.store.now in
    on_either c.add_id.result
    (λ e. subst (HasForms s) (sym e) (has_with s c.args.self.now c.args.form c.requires.forms c.requires.form))
    (λ e. subst (HasForms s) (sym e) c.requires.forms)
    c.add_id.ensures.ids c.add_id.ensures.refused

use Rattle.std.proofs.Common.{sym, ap, ◌∙◌, get_or}
use Rattle.term_store.specs.Trees.{form_of}
use Rattle.term_store.specs.declared.ids.FormId.{FormId}
use Rattle.param_store.specs.View.{forms_of}
use Rattle.branch.specs.Branch.{add}
use Rattle.branch.proofs.Held.{held_at}
use Rattle.branch.proofs.Entered.{more_added}
use Rattle.pruning.proofs.Ids.{front_of_front}
use Rattle.pruning.proofs.lists.add_all.Goals as goal

abbrev none : FormId
none = record { 0 = 0 }

pub add-requires-clause-form : goal.add-requires-clause-form
add-requires-clause-form c =
    held_at c.args.store.now c.args.more.now c.loop-form.form-index none c.requires.more c.loop-form-test.true

pub loop-form-preserved : goal.loop-form-preserved
loop-form-preserved c =
    let s = c.args.store.now in
    let i = c.loop-form.form-index in
    record {
      added = c.in_ok-add.ensures.forms
          ∙ (ap (λ b. add b (form_of s (get_or c.args.more.now i none))) c.loop-form.invariant.added
          ∙ sym (more_added s (forms_of s c.args.forms.now) c.args.more.now i none c.loop-form-test.true));
      has = c.in_ok-add.ensures.has;
      kept = front_of_front c.args.forms.now c.loop-form.forms c.add.new.forms c.loop-form.invariant.kept c.in_ok-add.ensures.kept;
    }

use Rattle.term_store.specs.declared.ids.FormId.{FormId}
use Rattle.branch.proofs.Useful.{form_at_place}
use Rattle.branch.proofs.listed.has_all.Goals as goal

abbrev none : FormId
none = record { 0 = 0 }

pub has-requires-clause-form : goal.has-requires-clause-form
has-requires-clause-form c = form_at_place c.args.store.now c.args.child.now c.loop-form.form-index none c.loop-form-test.true c.requires.has_child

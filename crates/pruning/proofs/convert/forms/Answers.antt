use Rattle.term_store.specs.declared.ids.FormId.{FormId}
use Rattle.branch.proofs.Held.{held_at}
use Rattle.pruning.proofs.convert.forms.Goals as goal

abbrev none : FormId
none = record { 0 = 0 }

pub form_tree-requires : goal.form_tree-requires
form_tree-requires c = held_at c.args.store.now c.args.ids.now c.loop-id.id-index none c.requires c.loop-id-test.true

use Rattle.std.proofs.Common.{◌≡◌, map, take}
use Rattle.zm_logic.specs.View.{form_tree}
use Rattle.param_store.specs.View.{forms_of}
use Rattle.pruning.proofs.convert.forms.Given as goal

abbrev pub invariant-loop-id : goal.invariant-loop-id
invariant-loop-id l = map form_tree l.all ≡ forms_of l.store (take l.id-index l.ids)

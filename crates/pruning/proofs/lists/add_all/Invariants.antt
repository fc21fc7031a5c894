use Rattle.std.proofs.Common.{◌≡◌, take, length}
use Rattle.param_store.specs.View.{forms_of, HasForms}
use Rattle.branch.specs.Branch as spec
use Rattle.pruning.proofs.lists.add_all.Given as goal

abbrev pub invariant-loop-form : goal.invariant-loop-form
invariant-loop-form l = record {
  added : forms_of l.store l.forms ≡ spec.extend (forms_of l.store l.initial.forms) (forms_of l.store (take l.form-index l.more));
  has : HasForms l.store l.forms;
  kept : take (length l.initial.forms) l.forms ≡ l.initial.forms;
}

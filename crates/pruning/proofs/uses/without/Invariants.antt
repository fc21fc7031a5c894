use Rattle.std.proofs.Common.{◌≡◌, take}
use Rattle.param_store.specs.View.{forms_of, HasForms}
use Rattle.branch.specs.Tableau as spec
use Rattle.pruning.proofs.uses.without.Given as goal

abbrev pub invariant-loop-form : goal.invariant-loop-form
invariant-loop-form l = record {
  forms : forms_of l.store l.all ≡ spec.without (forms_of l.store l.known) (forms_of l.store (take l.form-index l.forms));
  has : HasForms l.store l.all;
}

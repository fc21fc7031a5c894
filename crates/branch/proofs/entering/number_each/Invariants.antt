use Rattle.std.proofs.Common.{◌≡◌, take, length}
use Rattle.param_store.specs.View.{forms_of, HasForms}
use Rattle.branch.specs.Tableau.{enter}
use Rattle.branch.proofs.entering.number_each.Given as goal

abbrev pub invariant-loop-form : goal.invariant-loop-form
invariant-loop-form l = record {
  entered : forms_of l.store l.params ≡ enter (forms_of l.store l.initial.params) (forms_of l.store (take l.form-index l.forms));
  kept : take (length l.initial.params) l.params ≡ l.initial.params;
  has : HasForms l.store l.params;
}

use Rattle.std.proofs.Common.{◌≡◌, drop}
use Rattle.param_store.specs.View.{forms_of}
use Rattle.branch.specs.Tableau as spec
use Rattle.pruning.proofs.uses.is_apart.Given as goal

abbrev pub invariant-loop-form : goal.invariant-loop-form
invariant-loop-form l =
    spec.is_apart (forms_of l.store l.fresh) (forms_of l.store l.used) ≡ spec.is_apart (forms_of l.store (drop l.form-index l.fresh)) (forms_of l.store l.used)

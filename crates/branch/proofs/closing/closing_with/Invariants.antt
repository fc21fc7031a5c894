use Rattle.std.proofs.Common.{◌≡◌, drop}
use Rattle.term_store.specs.Trees.{form_of}
use Rattle.param_store.specs.View.{forms_of}
use Rattle.branch.specs.Branch as spec
use Rattle.branch.proofs.closing.closing_with.Given as goal

abbrev pub invariant-loop-form : goal.invariant-loop-form
invariant-loop-form l =
    spec.closing_with (forms_of l.store l.earlier) (form_of l.store l.later)
    ≡ spec.closing_with (forms_of l.store (drop l.form-index l.earlier)) (form_of l.store l.later)

use Rattle.std.proofs.Common.{◌≡◌}
use Rattle.param_store.specs.View.{forms_of}
use Rattle.branch.specs.Branch as spec
use Rattle.branch.proofs.Noted.{rest_from}
use Rattle.branch.proofs.closing.closing_after.Given as goal

-- nothing closes the formulas before the place
abbrev pub invariant-loop-place : goal.invariant-loop-place
invariant-loop-place l = spec.closing (forms_of l.store l.forms) ≡ rest_from l.store l.forms l.place

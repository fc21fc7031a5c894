use Rattle.std.proofs.Common.{◌≡◌, take}
use Rattle.param_store.specs.View.{forms_of}
use Rattle.branch.specs.Branch as spec
use Rattle.branch.specs.Earlier.{AreEarlier}
use Rattle.branch.proofs.Noted.{rest_from}
use Rattle.branch.proofs.closing.closing_pair.Given as goal

-- nothing closes the formulas before the place, and they are noted
abbrev pub invariant-loop-place : goal.invariant-loop-place
invariant-loop-place l = record {
  rest : spec.closing (forms_of l.store l.forms) ≡ rest_from l.store l.forms l.place;
  noted : AreEarlier l.store (forms_of l.store (take l.place l.forms)) l.earlier;
}

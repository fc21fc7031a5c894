use Rattle.std.proofs.Common.{◌≡◌}
use Rattle.param_store.specs.View.{forms_of}
use Rattle.branch.proofs.Useful.{all_from}
use Rattle.branch.proofs.listed.has_all.Given as goal

-- the formulas before the index stand on the branch
abbrev pub invariant-loop-form : goal.invariant-loop-form
invariant-loop-form l = all_from l.store (forms_of l.store l.found) 0 l.child ≡ all_from l.store (forms_of l.store l.found) l.form-index l.child

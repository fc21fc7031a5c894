use Rattle.std.proofs.Common.{◌≡◌}
use Rattle.param_store.specs.View.{forms_of}
use Rattle.branch.proofs.Useful.{some_from}
use Rattle.branch.proofs.listed.has_some.Given as goal

-- none of the children before the index has all its formulas on the branch
abbrev pub invariant-loop-child : goal.invariant-loop-child
invariant-loop-child l = some_from l.store (forms_of l.store l.found) 0 l.children ≡ some_from l.store (forms_of l.store l.found) l.child-index l.children

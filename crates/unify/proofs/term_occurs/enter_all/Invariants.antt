use Rattle.std.proofs.Common.{◌≡◌, ◌++◌, take}
use Rattle.unify.specs.Occurs.{entered_terms}
use Rattle.unify.proofs.term_occurs.enter_all.Given as goal

-- the types so far are entered
abbrev pub invariant-loop-id : goal.invariant-loop-id
invariant-loop-id l = l.path.items ≡ l.fn.path.items ++ entered_terms (take l.id-index l.ids)

use Rattle.std.proofs.Common.{◌≡◌, ◌++◌, take}
use Rattle.unify.specs.Occurs.{entered_types}
use Rattle.unify.proofs.ty_occurs.enter_all.Given as goal

-- the types so far are entered
abbrev pub invariant-loop-id : goal.invariant-loop-id
invariant-loop-id l = l.path.items ≡ l.fn.path.items ++ entered_types (take l.id-index l.ids)

use Rattle.std.proofs.Common.{◌≡◌, ◌++◌, drop}
use Rattle.unify.specs.Task.{term_tasks}
use Rattle.unify.proofs.task.push_terms.Given as goal

-- the pairs from the index on are added
abbrev pub invariant-loop-i : goal.invariant-loop-i
invariant-loop-i l = l.tasks.items ≡ l.fn.tasks.items ++ term_tasks (drop l.i l.left) (drop l.i l.right)

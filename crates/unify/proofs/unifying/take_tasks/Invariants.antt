use Rattle.unify.specs.View.{latest}
use Rattle.unify.specs.Task.{load}
use Rattle.unify.proofs.Onward.{Onward}
use Rattle.unify.proofs.unifying.take_tasks.Given as goal

abbrev pub invariant-loop-task : goal.invariant-loop-task
invariant-loop-task l = Onward l.store l.made l.fn.tasks.items l.known l.tasks.items

abbrev pub decreases-loop-task : goal.decreases-loop-task
decreases-loop-task l = load l.store (latest l.store l.made) l.tasks.items

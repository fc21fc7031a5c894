use Rattle.unify.specs.View.{latest}
use Rattle.unify.specs.Metas.{unbound}
use Rattle.unify.specs.Task.{equations}
use Rattle.unify.proofs.Onward.{Far}
use Rattle.unify.proofs.unifying.unify.Given as goal

abbrev pub invariant-bindings : goal.invariant-bindings
invariant-bindings l = Far l.store l.fn.tasks.items l.made.items l.known l.tasks.items

abbrev pub decreases-bindings : goal.decreases-bindings
decreases-bindings l = unbound (latest l.store l.made.items) (equations l.store l.tasks.items)

use Rattle.unify.proofs.Waiting.{none_left}
use Rattle.unify.proofs.Onward.{onward_done}
use Rattle.unify.proofs.unifying.take_tasks.Goals as goal

pub returns : goal.returns
returns c =
    let tasks = c.loop-task.tasks.items in
    let none = none_left tasks c.pop.new.self.items c.loop-task.tasks.len c.in_default.ensures.items c.in_default.ensures.rest c.in_default.ensures.cases.0 in
    onward_done c.args.store.now c.args.made.now c.args.tasks.now.items c.loop-task.known tasks none c.loop-task.invariant

use Rattle.zm_logic.specs.View.{problem_tree}
use Rattle.search.proofs.Growing.{started_grown}
use Rattle.search.proofs.run.search.Goals as goal

pub returns-in_ok-why-in-Ok : goal.returns-in_ok-why-in-Ok
returns-in_ok-why-in-Ok c =
    let p = problem_tree c.args.problem.now in
    let steps = c.args.budget.steps in
    let rewrites = c.args.budget.rewrites in
    let g = started_grown p steps rewrites c.in-Ok.tableau c.kept.ensures c.in-Ok.ensures.started in
    c.answer_of.ensures p steps rewrites (c.in_ok-why-in-Ok.ensures.grown p steps rewrites c.in_ok-why-in-Ok.ensures.within g) c.in_ok-why-in-Ok.ensures.ended

use Rattle.zm_logic.specs.View.{problem_tree}
use Rattle.zenon_modulo.proofs.Reported.{falsified_given}
use Rattle.zenon_modulo.proofs.report.report_falsified.Goals as goal

pub returns-clause-answer : goal.returns-clause-answer
returns-clause-answer c =
    falsified_given (problem_tree c.args.problem.now) c.args.steps c.args.tableau c.in_ok-valuation.field-0.valuation c.reported.result.outcome c.reported.result.text
    c.in_ok-valuation.field-0.text c.in_ok-valuation.ensures.valuation c.requires.stopped.grown.picked c.in_ok-valuation.ensures.text
    c.reported.ensures.outcome c.reported.ensures.text

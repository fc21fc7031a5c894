use Rattle.zm_logic.specs.View.{problem_tree}
use Rattle.zenon_modulo.proofs.Reported.{unknown_given}
use Rattle.zenon_modulo.proofs.report.report_unknown.Goals as goal

pub returns-clause-answer : goal.returns-clause-answer
returns-clause-answer c =
    unknown_given (problem_tree c.args.problem.now) c.args.steps c.args.tableau c.args.why c.reported.result.outcome c.reported.result.text c.in_ok-text.text
    c.requires.stopped c.requires.unsaturated c.in_ok-text.ensures c.reported.ensures.outcome c.reported.ensures.text

use Rattle.std.proofs.Common.{subst}
use Rattle.zm_logic.specs.View.{problem_tree}
use Rattle.zenon_modulo.proofs.Found.{stopped_search}
use Rattle.search.specs.Searched.{IsFound}
use Rattle.zenon_modulo.proofs.report.report.Goals as goal

pub report_proved-requires-clause-grown : goal.report_proved-requires-clause-grown
report_proved-requires-clause-grown c =
    (subst (IsFound (problem_tree c.args.problem.now) c.args.steps 10000) c.in-Closed.is c.requires.found).0

pub report_proved-requires-clause-closed : goal.report_proved-requires-clause-closed
report_proved-requires-clause-closed c =
    (subst (IsFound (problem_tree c.args.problem.now) c.args.steps 10000) c.in-Closed.is c.requires.found).1

pub report_open-requires : goal.report_open-requires
report_open-requires c =
    stopped_search (problem_tree c.args.problem.now) c.args.steps c.requires.typed c.requires.built c.in-Open.tableau c.in-Open.why
    (subst (IsFound (problem_tree c.args.problem.now) c.args.steps 10000) c.in-Open.is c.requires.found)

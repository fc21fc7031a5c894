use Rattle.zm_logic.specs.View.{problem_tree}
use Rattle.zenon_modulo.proofs.Found.{closed_proof}
use Rattle.zenon_modulo.proofs.ProofFiles.{started}
use Rattle.zenon_modulo.proofs.Reported.{proved_given}
use Rattle.zenon_modulo.proofs.report.report_proved.Goals as goal

pub returns-clause-answer : goal.returns-clause-answer
returns-clause-answer c =
    proved_given (problem_tree c.args.problem.now) c.args.steps c.args.tableau c.reported.result.outcome c.reported.result.text c.in_ok-text.text
    (closed_proof (problem_tree c.args.problem.now) c.args.steps c.requires.typed c.requires.built c.reading_is_unique.ensures
    c.closed_tableaux_make_goal_files.ensures c.args.tableau c.requires.grown c.requires.closed c.in_ok-text.ensures.reading)
    c.requires.grown.picked c.in_ok-text.ensures.text c.reported.ensures.outcome c.reported.ensures.text

pub proved_text-requires-clause-started : goal.proved_text-requires-clause-started
proved_text-requires-clause-started c =
    started c.keeping_all_keeps_the_premises.ensures (problem_tree c.args.problem.now) c.args.steps c.args.tableau c.requires.grown

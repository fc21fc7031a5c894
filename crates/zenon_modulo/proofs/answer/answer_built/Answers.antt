use Rattle.zm_logic.specs.View.{problem_tree}
use Rattle.zenon_modulo.proofs.Reported.{memory_for}
use Rattle.zenon_modulo.proofs.answer.answer_built.Goals as goal

pub returns-in-Err-clause-answer : goal.returns-in-Err-clause-answer
returns-in-Err-clause-answer c =
    memory_for (problem_tree c.args.problem.now) c.args.steps c.plain.result.outcome c.plain.result.text.items c.plain.ensures.outcome c.plain.ensures.text

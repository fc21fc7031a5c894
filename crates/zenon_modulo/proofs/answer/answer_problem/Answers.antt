use Rattle.std.proofs.Common.{rules}
use Rattle.zm_logic.specs.View.{problem_tree}
use Rattle.zenon_modulo.proofs.Answered.{not_built_given, searched_given}
use Rattle.zenon_modulo.proofs.answer.answer_problem.Goals as goal

pub returns-then-is_built-clause-answer : goal.returns-then-is_built-clause-answer
returns-then-is_built-clause-answer c = λ call name bytes read makes.
    searched_given call name bytes c.args.steps read (problem_tree c.args.problem.now) c.answer_built.result.outcome c.answer_built.result.text.items makes (search rules)
    c.answer_built.ensures.answer

pub returns-clause-answer : goal.returns-clause-answer
returns-clause-answer c = λ call name bytes read makes.
    not_built_given call name bytes c.args.steps read (problem_tree c.args.problem.now) c.refused.result.outcome c.refused.result.text.items makes (search rules)
    c.refused.ensures.outcome c.refused.ensures.text

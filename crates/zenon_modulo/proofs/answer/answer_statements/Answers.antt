use Rattle.std.proofs.Common.{Err, map, subst}
use Rattle.zm_logic.specs.View.{problem_tree}
use Rattle.tptp_include.specs.Outcomes.{placed_of}
use Rattle.tff_typing.specs.View.{Types}
use Rattle.zenon_modulo.proofs.Answered.{untyped_given, out_of_memory, makes_problem}
use Rattle.zenon_modulo.proofs.answer.answer_statements.Goals as goal

pub returns-in-Ok-clause-answer : goal.returns-in-Ok-clause-answer
returns-in-Ok-clause-answer c = λ call name bytes read gathered.
    c.answer_problem.ensures.answer call name bytes read
    (makes_problem call.files name bytes (map placed_of c.args.gathered.now) (problem_tree c.in-Ok.problem) gathered c.in-Ok.ensures)

pub returns-in-Err-Refused-clause-answer : goal.returns-in-Err-Refused-clause-answer
returns-in-Err-Refused-clause-answer c = λ call name bytes read gathered.
    untyped_given call name bytes c.args.steps read (map placed_of c.args.gathered.now) c.in-Err-Refused.refusal c.refused.result.outcome c.refused.result.text.items
    gathered (subst (λ e. Types (map placed_of c.args.gathered.now) (Err e)) c.in-Err-Refused.field-0-is c.in-Err-Refused.ensures) c.refused.ensures.outcome c.refused.ensures.text

pub returns-in-Err-Memory-clause-answer : goal.returns-in-Err-Memory-clause-answer
returns-in-Err-Memory-clause-answer c = λ call name bytes read gathered.
    out_of_memory call name bytes c.args.steps read c.plain.result.outcome c.plain.result.text.items c.plain.ensures.outcome c.plain.ensures.text

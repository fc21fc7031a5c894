use Rattle.tff_typing.proofs.States.{typed_problem, gathered_within}
use Rattle.tff_typing.proofs.typed.type_problem.Goals as goal

pub make-requires : goal.make-requires
make-requires c =
    typed_problem c.args.statements.now c.in-Ok.state c.in_ok-problem_of-in-Ok.field-0
    (gathered_within c.args.statements.now c.statements-list.ensures.gathered)
    (rw c.statements-list.ensures.value at c.in-Ok.ensures) c.in_ok-problem_of-in-Ok.ensures

use Rattle.tff_typing.proofs.Agreement.{made_problem_is_typed}
use Rattle.tff_typing.proofs.laws.typed_problems.Goals as goal

pub returns : goal.returns
returns c = made_problem_is_typed

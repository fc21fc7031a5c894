use Rattle.tff_typing.proofs.Agreement.{one_problem_made}
use Rattle.tff_typing.proofs.laws.one_problem.Goals as goal

pub returns : goal.returns
returns c = one_problem_made

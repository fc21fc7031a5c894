use Rattle.zenon_modulo.proofs.OneReading.{one_problem}
use Rattle.zenon_modulo.proofs.laws.spelled_problems_are_equal.Goals as goal

pub returns : goal.returns
returns c = one_problem c.outcomes_are_equal.ensures c.one_problem.ensures

use Rattle.zenon_modulo.proofs.OneReading.{accepted}
use Rattle.zenon_modulo.proofs.laws.spelled_problems_are_accepted.Goals as goal

pub returns : goal.returns
returns c = accepted c.outcomes_are_equal.ensures c.one_problem.ensures c.first_fault.ensures.never_both

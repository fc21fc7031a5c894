use Rattle.zenon_modulo.proofs.OneReading.{one_explanation}
use Rattle.zenon_modulo.proofs.laws.explanations_are_equal.Goals as goal

pub returns : goal.returns
returns c = one_explanation c.outcomes_are_equal.ensures c.one_problem.ensures c.first_fault.ensures.never_both

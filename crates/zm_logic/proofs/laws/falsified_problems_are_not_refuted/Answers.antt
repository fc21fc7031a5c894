use Rattle.zm_logic.proofs.Valuation.{not_falsified}
use Rattle.zm_logic.proofs.laws.falsified_problems_are_not_refuted.Goals as goal

pub returns : goal.returns
returns c = not_falsified

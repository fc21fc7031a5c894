use Rattle.zm_logic.proofs.Valuation.{not_all_true}
use Rattle.zm_logic.proofs.laws.refuted_forms_are_not_all_true.Goals as goal

pub returns : goal.returns
returns c = not_all_true

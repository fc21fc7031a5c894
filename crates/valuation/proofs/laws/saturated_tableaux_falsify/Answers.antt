use Rattle.valuation.proofs.Falsified.{saturated_tableaux_falsify}
use Rattle.valuation.proofs.laws.saturated_tableaux_falsify.Goals as goal

pub returns : goal.returns
returns c = saturated_tableaux_falsify

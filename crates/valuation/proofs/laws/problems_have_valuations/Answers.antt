use Rattle.valuation.proofs.Ground.{problems_have_valuations}
use Rattle.valuation.proofs.laws.problems_have_valuations.Goals as goal

pub returns : goal.returns
returns c = problems_have_valuations

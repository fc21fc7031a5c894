use Rattle.branch.proofs.Lawful.{offers_are_determined}
use Rattle.branch.proofs.laws.offers_are_determined.Goals as goal

pub returns : goal.returns
returns c = offers_are_determined

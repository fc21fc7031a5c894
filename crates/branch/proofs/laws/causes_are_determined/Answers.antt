use Rattle.branch.proofs.Lawful.{causes_are_determined}
use Rattle.branch.proofs.laws.causes_are_determined.Goals as goal

pub returns : goal.returns
returns c = causes_are_determined

use Rattle.branch.proofs.Lawful.{steps_are_lawful}
use Rattle.branch.proofs.laws.steps_are_lawful.Goals as goal

pub returns : goal.returns
returns c = steps_are_lawful

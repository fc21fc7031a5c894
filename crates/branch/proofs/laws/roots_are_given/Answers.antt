use Rattle.branch.proofs.Lawful.{roots_are_given}
use Rattle.branch.proofs.laws.roots_are_given.Goals as goal

pub returns : goal.returns
returns c = roots_are_given

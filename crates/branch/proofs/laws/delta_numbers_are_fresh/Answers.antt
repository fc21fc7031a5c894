use Rattle.branch.proofs.Lawful.{delta_numbers_are_fresh}
use Rattle.branch.proofs.laws.delta_numbers_are_fresh.Goals as goal

pub returns : goal.returns
returns c = delta_numbers_are_fresh

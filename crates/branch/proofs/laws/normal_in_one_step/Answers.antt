use Rattle.branch.proofs.Pruned.{normal_in_one_step}
use Rattle.branch.proofs.laws.normal_in_one_step.Goals as goal

pub returns : goal.returns
returns c = normal_in_one_step

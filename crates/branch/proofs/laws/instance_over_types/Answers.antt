use Rattle.branch.proofs.Worked.{instance_over_types}
use Rattle.branch.proofs.laws.instance_over_types.Goals as goal

pub returns : goal.returns
returns c = instance_over_types

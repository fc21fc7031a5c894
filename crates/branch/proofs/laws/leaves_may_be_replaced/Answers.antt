use Rattle.branch.proofs.Lawful.{leaves_may_be_replaced}
use Rattle.branch.proofs.laws.leaves_may_be_replaced.Goals as goal

pub returns : goal.returns
returns c = leaves_may_be_replaced

use Rattle.branch.proofs.Pruned.{spent_at_the_limit}
use Rattle.branch.proofs.laws.spent_at_the_limit.Goals as goal

pub returns : goal.returns
returns c = spent_at_the_limit

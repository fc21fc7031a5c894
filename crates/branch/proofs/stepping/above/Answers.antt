use Rattle.branch.proofs.Behind.{above_is}
use Rattle.branch.proofs.stepping.above.Goals as goal

pub returns : goal.returns
returns c = above_is c.args.path.now c.saturating_sub.result c.saturating_sub.ensures

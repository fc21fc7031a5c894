use Rattle.branch.proofs.Pruned.{skipped_sibling}
use Rattle.branch.proofs.laws.skipped_sibling.Goals as goal

pub returns : goal.returns
returns c = skipped_sibling

use Rattle.rule_index.proofs.Promises.{matching_rewrites}
use Rattle.rule_index.proofs.laws.matching_rewrites.Goals as goal

pub returns : goal.returns
returns c = matching_rewrites

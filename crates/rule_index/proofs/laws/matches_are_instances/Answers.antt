use Rattle.rule_index.proofs.Promises.{matches_are_instances}
use Rattle.rule_index.proofs.laws.matches_are_instances.Goals as goal

pub returns : goal.returns
returns c = matches_are_instances

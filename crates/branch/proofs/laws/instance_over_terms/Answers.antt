use Rattle.branch.proofs.Worked.{instance_over_terms}
use Rattle.branch.proofs.laws.instance_over_terms.Goals as goal

pub returns : goal.returns
returns c = instance_over_terms

use Rattle.branch.proofs.Lawful.{quantifier_free_branches_split}
use Rattle.branch.proofs.laws.quantifier_free_branches_split.Goals as goal

pub returns : goal.returns
returns c = quantifier_free_branches_split

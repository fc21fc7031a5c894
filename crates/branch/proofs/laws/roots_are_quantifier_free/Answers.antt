use Rattle.branch.proofs.Lawful.{roots_are_quantifier_free}
use Rattle.branch.proofs.laws.roots_are_quantifier_free.Goals as goal

pub returns : goal.returns
returns c = roots_are_quantifier_free

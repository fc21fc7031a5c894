use Rattle.branch.proofs.Lawful.{quantifier_free_offers_are_splits}
use Rattle.branch.proofs.laws.quantifier_free_offers_are_splits.Goals as goal

pub returns : goal.returns
returns c = quantifier_free_offers_are_splits

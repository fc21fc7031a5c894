use Rattle.branch.proofs.Lawful.{shallow_splits_are_offers}
use Rattle.branch.proofs.laws.shallow_splits_are_offers.Goals as goal

pub returns : goal.returns
returns c = shallow_splits_are_offers

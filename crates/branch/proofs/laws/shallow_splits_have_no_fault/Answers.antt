use Rattle.branch.proofs.Lawful.{shallow_splits_have_no_fault}
use Rattle.branch.proofs.laws.shallow_splits_have_no_fault.Goals as goal

pub returns : goal.returns
returns c = shallow_splits_have_no_fault

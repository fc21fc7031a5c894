use Rattle.lp_reduce.proofs.Promises as promises
use Rattle.lp_reduce.proofs.laws.normal_forms_are_reached.Goals as goal

pub returns : goal.returns
returns c = promises.normal_forms_are_reached

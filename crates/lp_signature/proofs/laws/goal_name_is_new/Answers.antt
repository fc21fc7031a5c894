use Rattle.lp_signature.proofs.SignatureIsFile.{goal_name_is_new}
use Rattle.lp_signature.proofs.laws.goal_name_is_new.Goals as goal

pub returns : goal.returns
returns c = goal_name_is_new

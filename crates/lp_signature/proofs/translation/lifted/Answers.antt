use Rattle.std.proofs.Common.{sym, ◌∙◌}
use Rattle.lp_signature.proofs.Spines.{lift_is}
use Rattle.lp_signature.proofs.translation.lifted.Goals as goal

pub returns-in-Some : goal.returns-in-Some
returns-in-Some c = c.in-Some.ensures.1 ∙ sym (lift_is c.args.under c.args.index)

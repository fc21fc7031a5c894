use Rattle.lp_signature.proofs.Added.{added_rule}
use Rattle.lp_signature.proofs.rewrites.add_forall.Goals as goal

pub returns : goal.returns
returns c = added_rule c.rule.result _ _ c.in_ok-context.ensures c.in_ok-left.ensures c.in_ok-right.ensures c.rule.ensures

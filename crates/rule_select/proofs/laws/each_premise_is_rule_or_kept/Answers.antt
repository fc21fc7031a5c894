use Rattle.rule_select.proofs.Sorted.{each_premise_is_rule_or_kept}
use Rattle.rule_select.proofs.laws.each_premise_is_rule_or_kept.Goals as goal

pub returns : goal.returns
returns c = each_premise_is_rule_or_kept

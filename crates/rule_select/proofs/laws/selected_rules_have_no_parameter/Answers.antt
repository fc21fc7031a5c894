use Rattle.rule_select.proofs.Selected.{selected_rules_have_no_parameter}
use Rattle.rule_select.proofs.laws.selected_rules_have_no_parameter.Goals as goal

pub returns : goal.returns
returns c = selected_rules_have_no_parameter

use Rattle.rule_select.proofs.Selected.{selected_rules_are_sound}
use Rattle.rule_select.proofs.laws.selected_rules_are_sound.Goals as goal

pub returns : goal.returns
returns c = selected_rules_are_sound

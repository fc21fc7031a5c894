use Rattle.lp_translation.proofs.laws.goal_files_are_made.Goals as goal
use Rattle.lp_translation.proofs.GoalIsTyped.{goal_files_are_made}

pub returns : goal.returns
returns c = goal_files_are_made c.selected_rules_are_sound.ensures c.steps_keep_typing.ensures c.signatures_are_well_formed.ensures

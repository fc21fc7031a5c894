use Rattle.lp_translation.proofs.laws.identity_has_a_goal_file.Goals as goal
use Rattle.lp_translation.proofs.Worked.{identity_has_a_goal_file}

pub returns : goal.returns
returns c = identity_has_a_goal_file c.selected_rules_are_sound.ensures c.steps_keep_typing.ensures c.signatures_are_well_formed.ensures

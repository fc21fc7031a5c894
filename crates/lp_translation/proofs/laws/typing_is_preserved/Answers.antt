use Rattle.lp_translation.proofs.laws.typing_is_preserved.Goals as goal
use Rattle.lp_translation.proofs.GoalIsTyped.{typing_is_preserved}

pub returns : goal.returns
returns c = typing_is_preserved c.selected_rules_are_sound.ensures c.steps_keep_typing.ensures c.signatures_are_well_formed.ensures

use Rattle.normaliser.proofs.Promises.{selected_rules_keep_typing}
use Rattle.normaliser.proofs.laws.selected_rules_keep_typing.Goals as goal

pub returns : goal.returns
returns c = selected_rules_keep_typing

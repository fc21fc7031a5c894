use Rattle.rule_index.proofs.Promises.{one_list_of_parts}
use Rattle.rule_index.proofs.laws.parts_are_determined.Goals as goal

pub returns : goal.returns
returns c = one_list_of_parts

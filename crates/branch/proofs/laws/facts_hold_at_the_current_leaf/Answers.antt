use Rattle.branch.proofs.Lawful.{facts_hold_at_the_current_leaf}
use Rattle.branch.proofs.laws.facts_hold_at_the_current_leaf.Goals as goal

pub returns : goal.returns
returns c = facts_hold_at_the_current_leaf

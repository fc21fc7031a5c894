use Rattle.branch.proofs.Lawful.{open_tableaux_have_a_current_leaf}
use Rattle.branch.proofs.laws.open_tableaux_have_a_current_leaf.Goals as goal

pub returns : goal.returns
returns c = open_tableaux_have_a_current_leaf

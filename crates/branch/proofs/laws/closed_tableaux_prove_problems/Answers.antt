use Rattle.branch.proofs.Lawful.{closed_tableaux_prove_problems}
use Rattle.branch.proofs.laws.closed_tableaux_prove_problems.Goals as goal

pub returns : goal.returns
returns c = closed_tableaux_prove_problems

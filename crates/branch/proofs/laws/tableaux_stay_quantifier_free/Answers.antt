use Rattle.branch.proofs.Lawful.{tableaux_stay_quantifier_free}
use Rattle.branch.proofs.laws.tableaux_stay_quantifier_free.Goals as goal

pub returns : goal.returns
returns c = tableaux_stay_quantifier_free

use Rattle.branch.proofs.Lawful.{closed_tableaux_give_derivations}
use Rattle.branch.proofs.laws.closed_tableaux_give_derivations.Goals as goal

pub returns : goal.returns
returns c = closed_tableaux_give_derivations

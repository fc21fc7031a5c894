use Rattle.sequent_proof.proofs.Examples.{implies_itself_derived}
use Rattle.sequent_proof.proofs.laws.each_formula_implies_itself.Goals as goal

pub returns : goal.returns
returns c = implies_itself_derived

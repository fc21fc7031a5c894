use Rattle.sequent_proof.proofs.Examples.{disjunction_derived}
use Rattle.sequent_proof.proofs.laws.disjunction_is_idempotent.Goals as goal

pub returns : goal.returns
returns c = disjunction_derived

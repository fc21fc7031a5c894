use Rattle.unify.proofs.Worked.{circular}
use Rattle.unify.proofs.laws.circular_bindings.Goals as goal

pub returns : goal.returns
returns c = circular

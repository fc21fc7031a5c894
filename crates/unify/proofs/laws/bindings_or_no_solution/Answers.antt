use Rattle.unify.proofs.Promises.{bindings_or_no_solution}
use Rattle.unify.proofs.laws.bindings_or_no_solution.Goals as goal

pub returns : goal.returns
returns c = bindings_or_no_solution

use Rattle.unify.proofs.Promises.{bindings_where_solvable}
use Rattle.unify.proofs.laws.bindings_where_solvable.Goals as goal

pub returns : goal.returns
returns c = bindings_where_solvable

use Rattle.unify.proofs.Promises.{unifiers_of_forms_are_determined}
use Rattle.unify.proofs.laws.unifiers_of_forms_are_determined.Goals as goal

pub returns : goal.returns
returns c = unifiers_of_forms_are_determined

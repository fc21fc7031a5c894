use Rattle.normaliser.proofs.Promises.{kept_forms_stay}
use Rattle.normaliser.proofs.laws.kept_forms_stay.Goals as goal

pub returns : goal.returns
returns c = kept_forms_stay

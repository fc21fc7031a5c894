use Rattle.search.proofs.Complete.{enough_steps_saturate}
use Rattle.search.proofs.laws.enough_steps_saturate.Goals as goal

pub returns : goal.returns
returns c = enough_steps_saturate

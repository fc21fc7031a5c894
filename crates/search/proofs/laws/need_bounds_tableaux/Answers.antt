use Rattle.search.proofs.Complete.{need_bounds_tableaux}
use Rattle.search.proofs.laws.need_bounds_tableaux.Goals as goal

pub returns : goal.returns
returns c = need_bounds_tableaux

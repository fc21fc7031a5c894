use Rattle.lp_reduce.specs.Normal.{Leads}
use Rattle.lp_reduce.proofs.normal.reduced.Goals as goal

pub loop-count-init : goal.loop-count-init
loop-count-init c = Leads.none

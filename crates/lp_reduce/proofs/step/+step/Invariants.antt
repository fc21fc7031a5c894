use Rattle.std.proofs.Common.{◌+◌, ◌*◌}
use Rattle.lp_reduce.proofs.step.+step.Given as goal

abbrev pub decreases-step : goal.decreases-step
decreases-step l = 2 * l.levels

abbrev pub decreases-body_step : goal.decreases-body_step
decreases-body_step l = 2 * l.levels + 1

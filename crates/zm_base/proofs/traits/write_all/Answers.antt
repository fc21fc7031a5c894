use Rattle.std.proofs.Common.{arith}
use Rattle.zm_base.proofs.Joins.{takes_more, counts_join}
use Rattle.zm_base.proofs.traits.write_all.Goals as goal

pub loop-at-preserved : goal.loop-at-preserved
loop-at-preserved g c = record {
  within = omega (arith, c.in_ok-at.ensures.count);
  held = takes_more _ _ _ _ _ _ c.loop-at.invariant.held c.in_ok-at.ensures.held;
  taken = counts_join _ _ _ _ _ c.loop-at.invariant.taken c.in_ok-at.ensures.taken;
  later = omega (arith, c.in_ok-at.ensures.cause.later);
}

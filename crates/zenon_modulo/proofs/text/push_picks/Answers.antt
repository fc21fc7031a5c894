use Rattle.std.proofs.Common.{arith}
use Rattle.zenon_modulo.proofs.Picks.{picks_step}
use Rattle.zenon_modulo.proofs.text.push_picks.Goals as goal

pub loop-i-preserved : goal.loop-i-preserved
loop-i-preserved c =
    picks_step c.args.text.now.items c.loop-i.text.items c.push_pick.new.text.items c.args.picks.now c.loop-i.i 0 (omega arith)
    c.loop-i.invariant c.in_ok-push_pick.ensures

use Rattle.std.proofs.Common.{length, ◌-◌, ◌≤◌, take}
use Rattle.zm_base.specs.Outside.{Takes, Counts}
use Rattle.zm_base.proofs.traits.write_all.Given as goal

abbrev pub invariant-loop-at : goal.invariant-loop-at
invariant-loop-at g l =
    let sink = g.K.Sink in
    record {
      within : l.at ≤ length l.bytes;
      held : Takes (take l.at l.bytes) (sink.held l.initial.sink) (sink.held l.sink);
      taken : Counts l.at (sink.taken l.initial.sink) (sink.taken l.sink);
      later : sink.faults l.initial.sink ≤ sink.faults l.sink;
    }

abbrev pub decreases-loop-at : goal.decreases-loop-at
decreases-loop-at g l = length l.bytes - l.at

use Rattle.std.proofs.Common.{◌+◌, ◌-◌, ◌≤◌, vec_len}
use Rattle.zm_base.specs.Outside.{IsFront}
use Rattle.zm_base.proofs.reading.read_to_limit.Given as goal

abbrev pub invariant-loop-got : goal.invariant-loop-got
invariant-loop-got g l =
    let source = g.S.Source in
    record {
      within : vec_len l.got ≤ l.limit;
      got : IsFront l.got.items (source.left l.initial.source) (source.left l.source);
      later : source.faults l.initial.source ≤ source.faults l.source;
    }

abbrev pub decreases-loop-got : goal.decreases-loop-got
decreases-loop-got g l = l.limit + 1 - vec_len l.got

use Rattle.std.proofs.Common.{◌≤◌, ◌-◌, length}
use Rattle.reader_speed.proofs.counting.counted.Given as goal

-- each statement so far has at least one byte
abbrev pub invariant-loop-statement : goal.invariant-loop-statement
invariant-loop-statement l = record {
  within : l.reached ≤ length l.bytes;
  few : l.statements ≤ l.reached;
}

abbrev pub decreases-loop-statement : goal.decreases-loop-statement
decreases-loop-statement l = length l.bytes - l.reached

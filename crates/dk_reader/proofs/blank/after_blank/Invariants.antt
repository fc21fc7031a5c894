use Rattle.std.proofs.Common.{◌≤◌, ℕ, List, length}
use Rattle.dk_text.specs.Tokens.{Skips}
use Rattle.dk_reader.proofs.blank.after_blank.Given as goal

-- what is left after the rest is left after all
abbrev pub invariant-loop-after : goal.invariant-loop-after
invariant-loop-after l = record {
  skips : (r : List ℕ) → Skips l.rest r → Skips l.bytes r;
  shrinks : length l.rest ≤ length l.bytes;
}

abbrev pub decreases-loop-after : goal.decreases-loop-after
decreases-loop-after l = length l.rest

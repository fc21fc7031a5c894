use Rattle.std.proofs.Common.{◌≡◌, ◌++◌, length, reverse}
use Rattle.dk_checker.proofs.file.outermost_first.Given as goal

-- the parts turned so far, and the rest
abbrev pub invariant-loop-part : goal.invariant-loop-part
invariant-loop-part l = l.turned ++ reverse l.rest ≡ reverse l.fn.path

abbrev pub decreases-loop-part : goal.decreases-loop-part
decreases-loop-part l = length l.rest

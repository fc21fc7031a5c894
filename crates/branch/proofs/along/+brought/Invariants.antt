use Rattle.std.proofs.Common.{length}
use Rattle.branch.proofs.along.+brought.Given as goal

abbrev pub decreases-brought : goal.decreases-brought
decreases-brought l = length l.path.now

use Rattle.std.proofs.Common.{length}
use Rattle.branch.proofs.next.+add_next.Given as goal

abbrev pub decreases-add_next : goal.decreases-add_next
decreases-add_next l = length l.path.now

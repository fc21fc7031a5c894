use Rattle.std.proofs.Common.{◌+◌, ◌*◌, length}
use Rattle.branch.proofs.place.+put_at.Given as goal

abbrev pub decreases-put_at : goal.decreases-put_at
decreases-put_at l = 2 * length l.path.now

abbrev pub decreases-put_in : goal.decreases-put_in
decreases-put_in l = 2 * length l.rest.now + 1

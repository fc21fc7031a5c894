use Rattle.std.proofs.Common.{◌+◌, ◌*◌}
use Rattle.tptp_reader.proofs.cursor.Parser.+tops.Given as goal

abbrev pub decreases-bound_top : goal.decreases-bound_top
decreases-bound_top l = 2 * l.room

abbrev pub decreases-bracketed_top : goal.decreases-bracketed_top
decreases-bracketed_top l = 2 * l.room

abbrev pub decreases-top : goal.decreases-top
decreases-top l = 2 * l.room + 1

use Rattle.std.proofs.Common.{◌+◌, ◌*◌}
use Rattle.tptp_reader.proofs.cursor.Parser.+typings.Given as goal

abbrev pub decreases-bracketed_typing : goal.decreases-bracketed_typing
decreases-bracketed_typing l = 2 * l.room

abbrev pub decreases-typing : goal.decreases-typing
decreases-typing l = 2 * l.room + 1

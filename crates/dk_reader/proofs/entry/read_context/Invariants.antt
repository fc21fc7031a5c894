use Rattle.std.proofs.Common.{length, map}
use Rattle.dk_reader.specs.Seen.{seen}
use Rattle.dk_reader.specs.Parts.{context_seen}
use Rattle.dk_reader.specs.Before.{Before}
use Rattle.dk_reader.proofs.entry.read_context.Given as goal

-- the bindings so far stand before what is left
abbrev pub invariant-loop-next : goal.invariant-loop-next
invariant-loop-next l = Before l.names (map seen l.tokens) (map seen l.read.rest.now) (context_seen l.read.context) l.scope

abbrev pub decreases-loop-next : goal.decreases-loop-next
decreases-loop-next l = length l.read.rest.now

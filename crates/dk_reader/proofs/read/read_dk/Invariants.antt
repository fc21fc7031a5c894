use Rattle.std.proofs.Common.{length}
use Rattle.lp_terms.specs.View.{entries_of}
use Rattle.dk_reader.proofs.Files.{SoFar}
use Rattle.dk_reader.proofs.read.read_dk.Given as goal

-- the entries so far stand before what is left
abbrev pub invariant-loop-here : goal.invariant-loop-here
invariant-loop-here l = SoFar l.bytes l.rest l.names (entries_of l.entries)

abbrev pub decreases-loop-here : goal.decreases-loop-here
decreases-loop-here l = length l.rest

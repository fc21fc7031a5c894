use Rattle.std.proofs.Common.{◌≡◌, ◌++◌, length}
use Rattle.tptp_reader.specs.Grammar.{unescaped}
use Rattle.tptp_reader.proofs.escapes.meant_bytes.Given as goal

-- those so far and those that follow are all
abbrev pub invariant-loop-byte : goal.invariant-loop-byte
invariant-loop-byte l = l.all.items ++ unescaped l.rest ≡ unescaped l.bytes

abbrev pub decreases-loop-byte : goal.decreases-loop-byte
decreases-loop-byte l = length l.rest

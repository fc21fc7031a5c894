use Rattle.std.proofs.Common.{◌≡◌, ◌+◌, length}
use Rattle.std.specs.Prelude.{map}
use Rattle.tptp_reader.specs.Rows.{unsupported_from}
use Rattle.tptp_reader.specs.Parsing.{seen}
use Rattle.tptp_reader.proofs.rows.unsupported_from.Given as goal

-- the first refused token, as the rest tells it
abbrev pub invariant-loop-rest : goal.invariant-loop-rest
invariant-loop-rest l = record {
  found : unsupported_from l.n (map seen l.rest) ≡ unsupported_from l.start (map seen l.lexemes);
  whole : l.n + length l.rest ≡ l.start + length l.lexemes;
}

abbrev pub decreases-loop-rest : goal.decreases-loop-rest
decreases-loop-rest l = length l.rest

use Rattle.std.proofs.Common.{◌≡◌, ◌≤◌, ◌+◌, length}
use Rattle.std.specs.Prelude.{map}
use Rattle.tptp_reader.specs.Brackets.{to_comma}
use Rattle.tptp_reader.specs.Parsing.{seen}
use Rattle.tptp_reader.proofs.parts.to_comma.Given as goal

-- what was counted, and what the rest has still to count
abbrev pub invariant-loop-rest : goal.invariant-loop-rest
invariant-loop-rest l = record {
  counted : l.count + to_comma l.opened (map seen l.rest) ≡ to_comma 0 (map seen l.lexemes);
  whole : l.count + length l.rest ≡ length l.lexemes;
  few : l.opened ≤ l.count;
}

abbrev pub decreases-loop-rest : goal.decreases-loop-rest
decreases-loop-rest l = length l.rest

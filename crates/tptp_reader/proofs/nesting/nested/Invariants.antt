use Rattle.std.proofs.Common.{◌≡◌, ◌+◌, length}
use Rattle.std.specs.Prelude.{map}
use Rattle.std.specs.Option.{option_map}
use Rattle.tptp_reader.specs.Rows.{unnested, nested}
use Rattle.tptp_reader.specs.Parsing.{seen}
use Rattle.tptp_reader.proofs.nesting.nested.Given as goal

-- the first token at which too much is open, as the rest tells it
abbrev pub invariant-loop-rest : goal.invariant-loop-rest
invariant-loop-rest l = record {
  found : option_map (λ n. l.count + n) (nested 200 l.nesting (map seen l.rest)) ≡ nested 200 unnested (map seen l.lexemes);
  whole : l.count + length l.rest ≡ length l.lexemes;
}

abbrev pub decreases-loop-rest : goal.decreases-loop-rest
decreases-loop-rest l = length l.rest

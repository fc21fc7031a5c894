use Rattle.std.proofs.Common.{◌≡◌, drop, map}
use Rattle.dk_text.specs.Refusals.{first_foreign}
use Rattle.dk_reader.specs.Seen.{seen}
use Rattle.dk_reader.proofs.judge.first_left_out.Given as goal

-- nothing before this token is left out
abbrev pub invariant-loop-token : goal.invariant-loop-token
invariant-loop-token l = first_foreign (map seen (drop l.token-index l.tokens)) ≡ first_foreign (map seen l.tokens)

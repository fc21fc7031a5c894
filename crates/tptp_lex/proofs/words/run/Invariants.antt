use Rattle.std.proofs.Common.{◌≡◌, ◌+◌, drop}
use Rattle.tptp_lex.specs.Words.{is_word, run}
use Rattle.tptp_lex.proofs.words.run.Given as goal

-- those so far and those that follow are all
abbrev pub invariant-loop-i : goal.invariant-loop-i
invariant-loop-i l = l.i + run is_word (drop l.i l.bytes) ≡ run is_word l.bytes

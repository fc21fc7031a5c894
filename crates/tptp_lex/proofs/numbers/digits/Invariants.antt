use Rattle.std.proofs.Common.{◌≡◌, ◌+◌, drop}
use Rattle.tptp_lex.specs.Numbers.{is_digit}
use Rattle.tptp_lex.specs.Words.{run}
use Rattle.tptp_lex.proofs.numbers.digits.Given as goal

-- those so far and those that follow are all
abbrev pub invariant-loop-i : goal.invariant-loop-i
invariant-loop-i l = l.i + run is_digit (drop l.i l.bytes) ≡ run is_digit l.bytes

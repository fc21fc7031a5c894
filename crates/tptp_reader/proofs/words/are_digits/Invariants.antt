use Rattle.std.proofs.Common.{◌≡◌, drop}
use Rattle.std.specs.List.{list_all}
use Rattle.tptp_lex.specs.Numbers.{is_digit}
use Rattle.tptp_reader.proofs.words.are_digits.Given as goal

-- those that follow decide
abbrev pub invariant-loop-b : goal.invariant-loop-b
invariant-loop-b l = list_all is_digit (drop l.b-index l.bytes) ≡ list_all is_digit l.bytes

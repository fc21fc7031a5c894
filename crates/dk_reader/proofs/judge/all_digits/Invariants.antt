use Rattle.std.proofs.Common.{◌≡◌, drop}
use Rattle.lp_terms.specs.Names.{all_bytes, is_digit}
use Rattle.dk_reader.proofs.judge.all_digits.Given as goal

-- the digits go on from here
abbrev pub invariant-loop-b : goal.invariant-loop-b
invariant-loop-b l = all_bytes is_digit (drop l.b-index l.bytes) ≡ all_bytes is_digit l.bytes

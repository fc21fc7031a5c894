use Rattle.std.proofs.Common.{◌≡◌, drop}
use Rattle.std.specs.List.{find}
use Rattle.tptp_lex.specs.Signs.{begins}
use Rattle.tptp_lex.proofs.signs.first_of.Given as goal

abbrev pub invariant-loop-sign : goal.invariant-loop-sign
invariant-loop-sign l = find (begins l.bytes) (drop l.sign-index l.signs) ≡ find (begins l.bytes) l.signs

use Rattle.std.proofs.Common.{◌≡◌, ◌+◌, drop, false}
use Rattle.std.specs.Option.{option_map}
use Rattle.tptp_lex.specs.Quoted.{closes}
use Rattle.tptp_lex.proofs.quoted.closes.Given as goal

-- those so far and those up to the mark are all
abbrev pub invariant-loop-i : goal.invariant-loop-i
invariant-loop-i l = option_map (λ n. l.i + n) (closes l.mark l.escaped (drop l.i l.bytes)) ≡ closes l.mark false l.bytes

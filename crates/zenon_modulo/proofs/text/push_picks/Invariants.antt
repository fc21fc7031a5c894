use Rattle.std.proofs.Common.{◌≡◌, ◌++◌, take}
use Rattle.zenon_modulo.specs.Text.{picks_text}
use Rattle.zenon_modulo.proofs.text.push_picks.Given as goal

-- the picks up to the index are written
abbrev pub invariant-loop-i : goal.invariant-loop-i
invariant-loop-i l = l.text.items ≡ l.initial.text.items ++ picks_text (take l.i l.picks)

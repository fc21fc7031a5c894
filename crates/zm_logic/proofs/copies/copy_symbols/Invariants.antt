use Rattle.std.proofs.Common.{◌≡◌, take}
use Rattle.zm_logic.proofs.copies.copy_symbols.Given as goal

abbrev pub invariant-loop-s : goal.invariant-loop-s
invariant-loop-s l = l.all ≡ take l.s-index l.s-items

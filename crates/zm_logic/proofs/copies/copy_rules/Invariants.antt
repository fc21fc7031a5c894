use Rattle.std.proofs.Common.{◌≡◌, take}
use Rattle.zm_logic.proofs.copies.copy_rules.Given as goal

abbrev pub invariant-loop-r : goal.invariant-loop-r
invariant-loop-r l = l.all ≡ take l.r-index l.r-items

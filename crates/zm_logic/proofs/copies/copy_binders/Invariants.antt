use Rattle.std.proofs.Common.{◌≡◌, take}
use Rattle.zm_logic.proofs.copies.copy_binders.Given as goal

abbrev pub invariant-loop-b : goal.invariant-loop-b
invariant-loop-b l = l.all ≡ take l.b-index l.b-items

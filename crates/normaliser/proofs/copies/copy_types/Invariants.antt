use Rattle.std.proofs.Common.{◌≡◌, take}
use Rattle.normaliser.proofs.copies.copy_types.Given as goal

abbrev pub invariant-loop-t : goal.invariant-loop-t
invariant-loop-t l = l.all ≡ take l.t-index l.t-items

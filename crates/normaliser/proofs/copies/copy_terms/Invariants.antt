use Rattle.std.proofs.Common.{◌≡◌, take}
use Rattle.normaliser.proofs.copies.copy_terms.Given as goal

abbrev pub invariant-loop-u : goal.invariant-loop-u
invariant-loop-u l = l.all ≡ take l.u-index l.u-items

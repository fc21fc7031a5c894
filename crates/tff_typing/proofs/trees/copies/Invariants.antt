use Rattle.std.proofs.Common.{◌≡◌, take}
use Rattle.tff_typing.proofs.trees.copies.Given as goal

abbrev pub invariant-loop-ty : goal.invariant-loop-ty
invariant-loop-ty l = l.all ≡ take l.ty-index l.ty-items

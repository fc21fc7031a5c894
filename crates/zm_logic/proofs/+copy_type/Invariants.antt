use Rattle.std.proofs.Common.{◌≡◌, take}
use Rattle.zm_logic.proofs.+copy_type.Given as goal

abbrev pub invariant-copies::copy_types-loop-t : goal.invariant-copies::copy_types-loop-t
invariant-copies::copy_types-loop-t l = l.all ≡ take l.t-index l.t-items

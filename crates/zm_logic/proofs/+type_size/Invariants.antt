use Rattle.std.proofs.Common.{◌≡◌, take, min, ◌-◌, ◌^◌}
use Rattle.zm_logic.specs.View.{types_tree}
use Rattle.zm_logic.specs.Measure as measure
use Rattle.zm_logic.proofs.+type_size.Given as goal

abbrev pub invariant-measures::types_size-loop-t : goal.invariant-measures::types_size-loop-t
invariant-measures::types_size-loop-t l = l.all ≡ min (measure.types_size (types_tree (take l.t-index l.t-items))) (2 ^ 64 - 1)

use Rattle.std.proofs.Common.{◌≡◌, take, min, ◌-◌, ◌^◌}
use Rattle.tptp_reader.specs.Raw.{raw_types_depth}
use Rattle.tptp_reader.specs.View.{raw_types_tree}
use Rattle.tptp_reader.proofs.depths.+raw_type_depth.Given as goal

abbrev pub invariant-types_depth-loop-t : goal.invariant-types_depth-loop-t
invariant-types_depth-loop-t l = l.all ≡ min (raw_types_depth (raw_types_tree (take l.t-index l.t-items))) (2 ^ 32 - 1)

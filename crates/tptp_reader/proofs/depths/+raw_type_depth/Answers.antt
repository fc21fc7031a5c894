-- The greater of the depth so far and the next type's is the depth of one more type.
use Rattle.std.proofs.Common.{ap, arith}
use Rattle.tptp_reader.specs.Raw.{raw_type_depth}
use Rattle.tptp_reader.specs.View.{raw_type_tree}
use Rattle.tptp_reader.proofs.Levels.{types_depth_more}
use Rattle.tptp_reader.proofs.depths.+raw_type_depth.Goals as goal

pub types_depth-loop-t-preserved : goal.types_depth-loop-t-preserved
types_depth-loop-t-preserved t c =
    let more = types_depth_more c.as_slice-t-items.result.now c.loop-t.t-index c.t-item.result (omega arith) in
    let next = ap (λ x. raw_type_depth (raw_type_tree x)) c.t-item.is in
    omega (arith, more, next)

-- The greater of the depth so far and the next type's is the depth of one more type.
use Rattle.std.proofs.Common.{ap, arith}
use Rattle.zm_logic.specs.View.{type_tree}
use Rattle.zm_logic.specs.Measure.{type_depth}
use Rattle.zm_logic.proofs.Lists.{types_depth_more}
use Rattle.zm_logic.proofs.+type_depth.Goals as goal

pub measures::types_depth-loop-t-preserved : goal.measures::types_depth-loop-t-preserved
measures::types_depth-loop-t-preserved t c =
    let more = types_depth_more c.as_slice-t-items.result.now c.loop-t.t-index c.t-item.result (omega arith) in
    let next = ap (λ x. type_depth (type_tree x)) c.t-item.is in
    omega (arith, more, next)

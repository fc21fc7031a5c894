-- The greater of the depth so far and the next term's is the depth of one more term.
use Rattle.std.proofs.Common.{ap, arith}
use Rattle.zm_logic.specs.View.{term_tree}
use Rattle.zm_logic.specs.Measure.{term_depth}
use Rattle.zm_logic.proofs.Lists.{terms_depth_more}
use Rattle.zm_logic.proofs.+term_depth.Goals as goal

pub measures::terms_depth-loop-u-preserved : goal.measures::terms_depth-loop-u-preserved
measures::terms_depth-loop-u-preserved t c =
    let more = terms_depth_more c.as_slice-u-items.result.now c.loop-u.u-index c.u-item.result (omega arith) in
    let next = ap (λ x. term_depth (term_tree x)) c.u-item.is in
    omega (arith, more, next)

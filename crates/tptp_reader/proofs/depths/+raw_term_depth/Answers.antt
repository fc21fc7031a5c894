-- The greater of the depth so far and the next term's is the depth of one more term.
use Rattle.std.proofs.Common.{ap, arith}
use Rattle.tptp_reader.specs.Raw.{raw_term_depth}
use Rattle.tptp_reader.specs.View.{raw_term_tree}
use Rattle.tptp_reader.proofs.Levels.{terms_depth_more}
use Rattle.tptp_reader.proofs.depths.+raw_term_depth.Goals as goal

pub terms_depth-loop-u-preserved : goal.terms_depth-loop-u-preserved
terms_depth-loop-u-preserved t c =
    let more = terms_depth_more c.as_slice-u-items.result.now c.loop-u.u-index c.u-item.result (omega arith) in
    let next = ap (λ x. raw_term_depth (raw_term_tree x)) c.u-item.is in
    omega (arith, more, next)

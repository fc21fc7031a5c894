use Rattle.std.proofs.Common.{◌≤◌, get_or, map, arith}
use Rattle.std.proofs.lemmas.List.{length-map}
use Rattle.term_store.proofs.Loops.{term_below_at, greatest_term_more}
use Rattle.term_store.proofs.depths.terms_depth.Goals as goal

pub depth_at-requires : goal.depth_at-requires
depth_at-requires c = term_below_at _ _ c.requires.below _ _ c.loop-id-test.true

pub loop-id-preserved : goal.loop-id-preserved
loop-id-preserved c =
    let ds = map (λ e. e.1) c.args.terms.now.entries in
    let id = get_or c.args.ids.now c.loop-id.id-index (record { 0 = 0 }) in
    let more = greatest_term_more ds c.args.ids.now c.loop-id.id-index (record { 0 = 0 }) c.loop-id-test.true in
    let below = term_below_at _ _ c.requires.below c.loop-id.id-index (record { 0 = 0 }) c.loop-id-test.true in
    let len = length-map c.args.terms.now.entries (λ e. e.1) in
    let bound : get_or ds id.0 0 ≤ 2000 = c.requires.bounded id.0 0 (omega (arith, below, len)) in
    (omega (arith, more, c.greater-all.ensures, c.depth_at.ensures, c.loop-id.invariant), omega (arith, bound, c.greater-all.ensures, c.depth_at.ensures, c.loop-id.invariant))

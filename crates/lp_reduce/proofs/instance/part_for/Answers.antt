use Rattle.std.proofs.Common.{◌-◌, refl, sym, ◌∙◌, arith}
use Rattle.std.proofs.lemmas.Option.{slice_get_past}
use Rattle.lp_terms.specs.View.{terms_of}
use Rattle.lp_reduce.proofs.Layers.{index_is}
use Rattle.lp_reduce.proofs.Puts.{put_from, part_missing}
use Rattle.lp_reduce.proofs.instance.part_for.Goals as goal

pub returns-in-None : goal.returns-in-None
returns-in-None c =
    let past = c.in-None.ensures.lookup.3 in
    let from = put_from c.args.at (terms_of c.args.parts.now) c.args.i (c.args.i - c.args.at) (omega (arith, c.if-i-at.false)) refl in
    let missing = part_missing c.args.parts.now (c.args.i - c.args.at) c.args.i (slice_get_past c.args.parts.now (c.args.i - c.args.at) past) in
    index_is c.args.i ∙ sym (from ∙ missing)

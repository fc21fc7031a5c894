use Rattle.std.proofs.Common.{rules, subst, sym}
use Rattle.param_store.specs.View.{HasRaw}
use Rattle.tree_cases.proofs.At.{raw_at}
use Rattle.tree_cases.proofs.shown.put_offers.Goals as goal

pub put_offer-requires : goal.put_offer-requires
put_offer-requires c =
    let at = c.index-offers-place in
    subst (HasRaw c.args.store.now) (sym at.is) (raw_at c.args.store.now c.args.offers.now c.loop-place.place at.result (search rules) c.requires)

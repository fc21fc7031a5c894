use Rattle.tree_cases.proofs.At.{place_still}
use Rattle.tree_cases.proofs.offers.own_offers_text.Goals as goal

pub deep_text-requires : goal.deep_text-requires
deep_text-requires c =
    let at = c.in-Err-Deep in
    place_still _ _ c.own_offers.ensures.kept c.args.form at.at _ _ c.requires.has at.field-0-is at.ensures.deep

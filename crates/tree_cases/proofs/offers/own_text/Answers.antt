use Rattle.tree_cases.proofs.At.{numbered_still}
use Rattle.tree_cases.proofs.offers.own_text.Goals as goal

pub own_offers_text-requires-clause-numbered : goal.own_offers_text-requires-clause-numbered
own_offers_text-requires-clause-numbered c = numbered_still _ _ c.stored_form.ensures.kept c.args.params.now c.requires

use Rattle.std.proofs.Common.{subst, IfOk}
use Rattle.branch.specs.Stepped.{AreOffersSeen}
use Rattle.search.proofs.Growing.{seen_offers}
use Rattle.search.proofs.run.count_offers.Goals as goal

pub returns-clause-listed : goal.returns-clause-listed
returns-clause-listed c =
    let u = c.offers.follows.lender-at-none in
    seen_offers u c.in_ok-offers.field-0.now (subst (λ r. IfOk r (λ os. AreOffersSeen u os.now)) c.in_ok-offers.was c.offers.follows.holds-at-none.offers)

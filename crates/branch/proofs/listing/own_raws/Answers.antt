use Rattle.std.proofs.Common.{IfOk, subst, ◌∙◌}
use Rattle.std.proofs.lemmas.Result.{on_ok_weaker}
use Rattle.term_store.specs.Trees.{form_of}
use Rattle.param_store.specs.RawOffers.{own_offers}
use Rattle.param_store.specs.View.{AreRaws, forms_of}
use Rattle.branch.proofs.Numbered.{numbers_stay}
use Rattle.branch.proofs.Outcomes.{after_either}
use Rattle.branch.proofs.listing.own_raws.Goals as goal

pub returns-clause-params : goal.returns-clause-params
returns-clause-params c =
    let stay = numbers_stay c.args.store.now c.shared.ensures c.args.form c.requires.has c.args.params.now c.requires.numbered c.requires.known in
    after_either c.own_offers.result (on_ok_weaker c.own_offers.result (λ e. e ∙ stay) c.own_offers.ensures.numbers) c.own_offers.ensures.refused

pub returns-clause-offers : goal.returns-clause-offers
returns-clause-offers c =
    let stay = numbers_stay c.args.store.now c.shared.ensures c.args.form c.requires.has c.args.params.now c.requires.numbered c.requires.known in
    let same = after_either c.own_offers.result (on_ok_weaker c.own_offers.result (λ e. e ∙ stay) c.own_offers.ensures.numbers) c.own_offers.ensures.refused in
    let t = c.own_offers.new.store in
    subst (λ ps. IfOk c.own_offers.result (AreRaws t (own_offers (forms_of t ps) (form_of t c.args.form)))) same c.own_offers.ensures.offers

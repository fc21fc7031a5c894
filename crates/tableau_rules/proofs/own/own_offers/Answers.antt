-- The formulas of the table stay while an alpha or a beta formula gives its offer.
use Rattle.param_store.proofs.Stay.{forms_still}
use Rattle.tableau_rules.proofs.own.own_offers.Goals as goal

pub returns-in-Some-clause-numbered : goal.returns-in-Some-clause-numbered
returns-in-Some-clause-numbered c = forms_still c.args.store.now c.split_offers.new.store c.split_offers.ensures.kept c.args.params.now c.requires.numbered

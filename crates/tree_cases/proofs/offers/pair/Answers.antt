use Rattle.term_store.proofs.Kept.{still_form}
use Rattle.tree_cases.proofs.offers.pair.Goals as goal

pub returns-clause-has : goal.returns-clause-has
returns-clause-has c = still_form _ _ c.form_at-2.ensures.kept c.in_ok-earlier.earlier c.in_ok-earlier.ensures.has

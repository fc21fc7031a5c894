-- The types keep their ids while the terms are entered.
use Rattle.zm_logic.specs.View.{types_tree}
use Rattle.term_store.proofs.Stays.{type_ids_stay}
use Rattle.term_store.proofs.store.Store.enter_parts.Goals as goal

pub returns-clause-made : goal.returns-clause-made
returns-clause-made c =
    type_ids_stay c.enter_tys.new.self c.enter_terms.new.self c.in_ok-terms.ensures.kept (types_tree c.args.types.now) c.in_ok-types.types c.in_ok-types.ensures.made

use Rattle.search.proofs.Growing.{turned_grown}
use Rattle.search.proofs.run.turn.Goals as goal

pub returns-clause-grown : goal.returns-clause-grown
returns-clause-grown c =
    turned_grown c.args.steps c.turn_at_leaf.result c.args.tableau.now c.close_leaves.new.tableau c.turn_at_leaf.new.tableau
    c.in_ok-close_leaves.ensures.grown c.turn_at_leaf.ensures.grown c.turn_at_leaf.ensures.turn

use Rattle.search.proofs.Growing.{closed_grown, closed_leaves, closed_count}
use Rattle.search.proofs.run.close.Goals as goal

pub returns-clause-grown : goal.returns-clause-grown
returns-clause-grown c =
    closed_grown c.args.tableau.now c.close_leaf.new.self c.kept.ensures c.kept-2.ensures c.in_ok-close_leaf.ensures.closed

pub returns-clause-fewer : goal.returns-clause-fewer
returns-clause-fewer c =
    closed_leaves c.args.tableau.now c.close_leaf.new.self c.kept.ensures c.kept-2.ensures c.in_ok-close_leaf.ensures.closed

pub returns-clause-same : goal.returns-clause-same
returns-clause-same c =
    closed_count c.args.tableau.now c.close_leaf.new.self c.kept.ensures c.kept-2.ensures c.in_ok-close_leaf.ensures.closed

use Rattle.std.proofs.Common.{◌≡◌, suc, arith}
use Rattle.branch.specs.Tableau.{count}
use Rattle.branch.specs.State.{tree}
use Rattle.search.proofs.Growing.{stays_on}
use Rattle.search.proofs.run.turn_at_leaf.Goals as goal

pub returns-in_ok-grow-in-None-clause-grown : goal.returns-in_ok-grow-in-None-clause-grown
returns-in_ok-grow-in-None-clause-grown c =
    let more : count (tree c.grow.new.tableau) ≡ suc (count (tree c.stop.new.tableau)) = c.in_ok-grow-in-None.ensures.more in
    stays_on c.args.tableau.now c.stop.new.tableau c.grow.new.tableau c.in_ok-why.ensures.grown c.in_ok-grow-in-None.ensures.grown (omega arith)

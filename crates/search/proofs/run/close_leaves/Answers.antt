use Rattle.std.proofs.Common.{◌≡◌, ◌∙◌, arith}
use Rattle.branch.specs.Tableau.{count}
use Rattle.branch.specs.State.{tree}
use Rattle.search.proofs.Growing.{stays_on}
use Rattle.search.proofs.run.close_leaves.Goals as goal

pub loop-tableau-preserved : goal.loop-tableau-preserved
loop-tableau-preserved c =
    let e : count (tree c.close.new.tableau) ≡ count (tree c.loop-tableau.tableau) = c.in_ok-close.ensures.same in
    record {
      grown = stays_on _ c.loop-tableau.tableau c.close.new.tableau c.loop-tableau.invariant.grown c.in_ok-close.ensures.grown (omega arith);
      same = e ∙ c.loop-tableau.invariant.same;
    }

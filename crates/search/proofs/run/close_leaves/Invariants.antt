use Rattle.std.proofs.Common.{◌≡◌}
use Rattle.branch.specs.Tableau.{count}
use Rattle.branch.specs.State.{tree}
use Rattle.search.specs.OpenLeaves.{open_leaves}
use Rattle.search.specs.Searched.{StaysGrown}
use Rattle.search.proofs.run.close_leaves.Given as goal

abbrev pub invariant-loop-tableau : goal.invariant-loop-tableau
invariant-loop-tableau l = record {
  grown : StaysGrown l.fn.tableau l.tableau;
  same : count (tree l.tableau) ≡ count (tree l.fn.tableau);
}

abbrev pub decreases-loop-tableau : goal.decreases-loop-tableau
decreases-loop-tableau l = open_leaves (tree l.tableau)

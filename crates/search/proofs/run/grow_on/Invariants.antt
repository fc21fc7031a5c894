use Rattle.std.proofs.Common.{◌≤◌, ◌-◌}
use Rattle.branch.specs.Tableau.{count}
use Rattle.branch.specs.State.{tree}
use Rattle.search.specs.Searched.{StaysGrown}
use Rattle.search.proofs.run.grow_on.Given as goal

abbrev pub invariant-loop-why : goal.invariant-loop-why
invariant-loop-why l = record {
  grown : StaysGrown l.fn.tableau l.tableau;
  within : count (tree l.tableau) ≤ l.steps;
}

abbrev pub decreases-loop-why : goal.decreases-loop-why
decreases-loop-why l = l.steps - count (tree l.tableau)

use Rattle.std.proofs.Common.{ℕ, ◌≡◌, ◌≤◌}
use Rattle.sequent_proof.specs.Tree.{depth}
use Rattle.sequent_proof.specs.Text.{lines}
use Rattle.sequent_proof.specs.View.{tree_of}
use Rattle.sequent_proof.proofs.lines.past_conversions.Given as goal

-- what was passed writes nothing
abbrev pub invariant-loop-tree : goal.invariant-loop-tree
invariant-loop-tree l = record {
  lines : (level : ℕ) → lines level (tree_of l.tree) ≡ lines level (tree_of l.initial.tree);
  depth : depth (tree_of l.tree) ≤ depth (tree_of l.initial.tree);
}

abbrev pub decreases-loop-tree : goal.decreases-loop-tree
decreases-loop-tree l = depth (tree_of l.tree)

use Rattle.std.proofs.Common.{◌+◌, ◌*◌, take}
use Rattle.sequent_proof.specs.Tree.{depth, depth_all}
use Rattle.sequent_proof.specs.Text.{lines_of_all}
use Rattle.sequent_proof.specs.View.{tree_of, trees_of}
use Rattle.sequent_proof.specs.Writes.{Wrote}
use Rattle.sequent_proof.proofs.lines.+print.Given as goal

abbrev pub decreases-print_tree : goal.decreases-print_tree
decreases-print_tree g l = 2 * depth (tree_of l.tree.now)

abbrev pub decreases-print_trees : goal.decreases-print_trees
decreases-print_trees g l = 2 * depth_all (trees_of l.trees.now) + 1

-- the trees so far are printed
abbrev pub invariant-print_trees-loop-tree : goal.invariant-print_trees-loop-tree
invariant-print_trees-loop-tree g l = Wrote g.K.Sink (lines_of_all l.level (trees_of (take l.tree-index l.trees))) l.initial.sink l.sink

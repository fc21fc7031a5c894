use Rattle.std.proofs.Common.{rules, sym, ◌∙◌, arith}
use Rattle.sequent_proof.proofs.Joined.{joined, went_on, broke_off}
use Rattle.sequent_proof.proofs.Layers.{named_lines}
use Rattle.sequent_proof.proofs.Lists.{next_tree, tree_and_rest, depth_within}
use Rattle.sequent_proof.proofs.lines.+print.Goals as goal

pub print_trees-print_tree-requires : goal.print_trees-print_tree-requires
print_trees-print_tree-requires g t c κs within =
    let less = depth_within c.args.trees.now c.loop-tree.tree-index c.tree-item.result c.loop-tree-test.true c.tree-item.is in
    (omega (arith, less, c.decreases), (within, omega (arith, less, c.requires)))

pub print_trees-returns-in_err-print_tree : goal.print_trees-returns-in_err-print_tree
print_trees-returns-in_err-print_tree g t c =
    broke_off _ _ c.loop-tree.invariant c.print_tree.ensures (search rules) (search rules)
    (tree_and_rest c.args.level c.args.trees.now c.loop-tree.tree-index c.tree-item.result c.loop-tree-test.true c.tree-item.is)

pub print_trees-loop-tree-preserved : goal.print_trees-loop-tree-preserved
print_trees-loop-tree-preserved g t c =
    went_on _ c.loop-tree.invariant c.print_tree.ensures (search rules)
    (next_tree c.args.level c.args.trees.now c.loop-tree.tree-index c.tree-item.result c.loop-tree-test.true c.tree-item.is)

pub print_tree-returns-in_ok-print_line-in-Some : goal.print_tree-returns-in_ok-print_line-in-Some
print_tree-returns-in_ok-print_line-in-Some g t c =
    let x = c.past_conversions-tree in
    joined _ c.print_line.ensures (search rules) c.print_trees.ensures
    (sym (x.ensures.lines c.args.level) ∙ named_lines x.result.now c.as_slice.result.now c.args.level c.in-Some.name.now c.in-Some.ensures c.as_slice.ensures)

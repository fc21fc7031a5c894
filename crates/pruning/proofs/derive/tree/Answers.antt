use Rattle.std.proofs.Common.{sym, subst}
use Rattle.branch.specs.Ids.{node_ids}
use Rattle.branch.specs.Path.{IsFinished}
use Rattle.branch.proofs.Paths.{tree_finished}
use Rattle.pruning.proofs.derive.tree.Goals as goal

pub root_tree-requires-clause-finished : goal.root_tree-requires-clause-finished
root_tree-requires-clause-finished c =
    let t = c.args.tableau.now in
    subst (λ n. IsFinished (node_ids n)) (sym c.root.ensures) (tree_finished t.store (node_ids t.node) c.has_no_open_leaf.ensures)

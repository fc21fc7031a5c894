-- The node that is read at the root of a tree.
use Rattle.std.specs.Prelude.{map}
use Rattle.std.specs.Option.{option_map}
use Rattle.zm_logic.specs.View.{form_tree}
use Rattle.sequent_proof.specs.Tree as plain
use Rattle.sequent_proof.specs.View.{name_of, part_of, trees_of}
use Rattle.lp_translation.specs.declared.node.Node.{Node}

abbrev pub node_tree : Node → plain.DTree
node_tree n =
    plain.DTree.node (map form_tree n.added.now) (name_of n.name) (form_tree n.first.now) (option_map form_tree n.second.now)
    (option_map part_of n.with.now) (trees_of n.children.now)

-- The tree of a type, by its constructor.
use Rattle.std.proofs.Common.{ℕ, ◌≡◌, List}
use Rattle.zm_logic.specs.Tree as tree
use Rattle.zm_logic.specs.View.{type_tree, types_tree, step_of_type}
use Rattle.zm_logic.specs.declared.tree.SymId.{SymId}
use Rattle.zm_logic.specs.declared.tree.Ty.{Ty}
use Rattle.zm_logic.specs.declared.tree.Ty as code
use Rattle.zm_logic.specs.declared.tree.Ty.TheOpen as type_layer
use Rattle.zm_logic.specs.declared.tree.Ty.TheFolds.{fold-roll-Ty}

pub tree_bound : (i : ℕ) → type_tree (code.Bound i) ≡ tree.Ty.bound i
unfolding code.roll-Ty denote.Hole.Carrier.roll
tree_bound i = fold-roll-Ty tree.Ty step_of_type (type_layer.Bound i)

pub tree_param : (n : ℕ) → type_tree (code.Param n) ≡ tree.Ty.param n
unfolding code.roll-Ty denote.Hole.Carrier.roll
tree_param n = fold-roll-Ty tree.Ty step_of_type (type_layer.Param n)

pub tree_meta : (n : ℕ) → type_tree (code.Meta n) ≡ tree.Ty.meta n
unfolding code.roll-Ty denote.Hole.Carrier.roll
tree_meta n = fold-roll-Ty tree.Ty step_of_type (type_layer.Meta n)

pub tree_con : (c : SymId) (ts : List Ty) → type_tree (code.Con c ts) ≡ tree.Ty.con c.0 (types_tree ts)
unfolding code.roll-Ty denote.Hole.Carrier.roll
tree_con c ts = fold-roll-Ty tree.Ty step_of_type (type_layer.Con c ts)

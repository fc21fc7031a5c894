use Rattle.std.proofs.Common.{◌≡◌, ◌+◌, ◌*◌, take}
use Rattle.zm_logic.specs.Measure.{type_depth, types_depth}
use Rattle.zm_logic.specs.View.{types_tree}
use Rattle.term_store.specs.Node.{types_at}
use Rattle.term_store.specs.Trees.{type_of, all_trees}
use Rattle.term_store.proofs.store.Store.+ty_tree.Given as goal

abbrev pub decreases-ty_tree : goal.decreases-ty_tree
decreases-ty_tree l = 2 * type_depth (type_of l.self.now l.id)

abbrev pub decreases-ty_trees : goal.decreases-ty_trees
decreases-ty_trees l = 2 * types_depth (types_at (all_trees l.self.now).types l.ids.now) + 1

abbrev pub invariant-ty_trees-loop-id : goal.invariant-ty_trees-loop-id
invariant-ty_trees-loop-id l = types_tree l.all ≡ types_at (all_trees l.self).types (take l.id-index l.id-items)

use Rattle.std.proofs.Common.{◌≡◌, ◌+◌, ◌*◌, take}
use Rattle.zm_logic.specs.Measure.{term_depth, terms_depth}
use Rattle.zm_logic.specs.View.{terms_tree}
use Rattle.term_store.specs.Node.{terms_at}
use Rattle.term_store.specs.Trees.{term_of, all_trees}
use Rattle.term_store.proofs.store.Store.+term_tree.Given as goal

abbrev pub decreases-term_tree : goal.decreases-term_tree
decreases-term_tree l = 2 * term_depth (term_of l.self.now l.id)

abbrev pub decreases-term_trees : goal.decreases-term_trees
decreases-term_trees l = 2 * terms_depth (terms_at (all_trees l.self.now).terms l.ids.now) + 1

abbrev pub invariant-term_trees-loop-id : goal.invariant-term_trees-loop-id
invariant-term_trees-loop-id l = terms_tree l.all ≡ terms_at (all_trees l.self).terms (take l.id-index l.id-items)

use Rattle.std.proofs.Common.{◌+◌, ◌*◌, max}
use Rattle.zm_logic.specs.Measure.{depth}
use Rattle.term_store.specs.Trees.{form_of}
use Rattle.term_store.proofs.store.Store.+boxed_tree.Given as goal

abbrev pub decreases-boxed_tree : goal.decreases-boxed_tree
decreases-boxed_tree l = 2 * depth (form_of l.self.now l.id)

abbrev pub decreases-not_tree : goal.decreases-not_tree
decreases-not_tree l = 2 * depth (form_of l.self.now l.f) + 1

abbrev pub decreases-binary_tree : goal.decreases-binary_tree
decreases-binary_tree l = 2 * max (depth (form_of l.self.now l.f)) (depth (form_of l.self.now l.g)) + 1

abbrev pub decreases-quantified_tree : goal.decreases-quantified_tree
decreases-quantified_tree l = 2 * depth (form_of l.self.now l.f) + 1

abbrev pub decreases-quantified_types_tree : goal.decreases-quantified_types_tree
decreases-quantified_types_tree l = 2 * depth (form_of l.self.now l.f) + 1

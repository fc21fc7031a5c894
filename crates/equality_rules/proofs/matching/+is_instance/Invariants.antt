use Rattle.std.proofs.Common.{◌≡◌, ◌+◌, ◌*◌, drop, length}
use Rattle.zm_logic.specs.Measure.{type_depth, types_depth}
use Rattle.term_store.specs.Trees.{type_of, all_trees}
use Rattle.term_store.specs.Node.{types_at}
use Rattle.equality_rules.proofs.Pairwise.{pairwise}
use Rattle.equality_rules.proofs.Lists.{instance_test}
use Rattle.equality_rules.proofs.matching.+is_instance.Given as goal

abbrev pub decreases-is_instance : goal.decreases-is_instance
decreases-is_instance l = 2 * type_depth (type_of l.store.now l.id)

abbrev pub decreases-are_instances : goal.decreases-are_instances
decreases-are_instances l = 2 * types_depth (types_at (all_trees l.store.now).types l.ids.now) + 1

-- the lists agree up to the index
abbrev pub invariant-are_instances-loop-i : goal.invariant-are_instances-loop-i
invariant-are_instances-loop-i l = record {
  lengths : length l.declared ≡ length l.ids;
  rest : pairwise (instance_test (all_trees l.store).types (types_at (all_trees l.store).types l.types)) (drop l.i l.declared) (drop l.i l.ids)
      ≡ pairwise (instance_test (all_trees l.store).types (types_at (all_trees l.store).types l.types)) l.declared l.ids;
}

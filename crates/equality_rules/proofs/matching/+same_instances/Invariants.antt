use Rattle.std.proofs.Common.{◌≡◌, drop, length}
use Rattle.term_store.specs.Trees.{all_trees}
use Rattle.term_store.specs.Node.{types_at}
use Rattle.equality_rules.proofs.Pairwise.{pairwise}
use Rattle.equality_rules.proofs.Lists.{both_test}
use Rattle.equality_rules.proofs.matching.+same_instances.Given as goal

-- the lists agree up to the index
abbrev pub invariant-all_same_instances-loop-i : goal.invariant-all_same_instances-loop-i
invariant-all_same_instances-loop-i l = record {
  lengths : length l.lefts ≡ length l.rights;
  rest : pairwise (both_test (types_at (all_trees l.store).types l.left_types) (types_at (all_trees l.store).types l.right_types)) (drop l.i l.lefts) (drop l.i l.rights)
      ≡ pairwise (both_test (types_at (all_trees l.store).types l.left_types) (types_at (all_trees l.store).types l.right_types)) l.lefts l.rights;
}

use Rattle.std.proofs.Common.{◌≡◌, drop, length, map}
use Rattle.zm_logic.specs.View.{symbol_tree}
use Rattle.term_store.specs.Trees.{all_trees}
use Rattle.term_store.specs.Node.{types_at}
use Rattle.equality_rules.proofs.Pairwise.{pairwise}
use Rattle.equality_rules.proofs.Lists.{head_test}
use Rattle.equality_rules.proofs.typing.heads_are.Given as goal

-- the lists agree up to the index
abbrev pub invariant-loop-i : goal.invariant-loop-i
invariant-loop-i l = record {
  lengths : length l.wanted ≡ length l.terms;
  rest : pairwise (head_test (map symbol_tree l.symbols) (all_trees l.store).terms (types_at (all_trees l.store).types l.wanted_types)) (drop l.i l.wanted) (drop l.i l.terms)
      ≡ pairwise (head_test (map symbol_tree l.symbols) (all_trees l.store).terms (types_at (all_trees l.store).types l.wanted_types)) l.wanted l.terms;
}

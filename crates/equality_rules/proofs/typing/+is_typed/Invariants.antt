use Rattle.std.proofs.Common.{◌≡◌, ◌+◌, ◌*◌, drop, map}
use Rattle.zm_logic.specs.Measure.{term_depth, terms_depth}
use Rattle.zm_logic.specs.View.{symbol_tree}
use Rattle.term_store.specs.Node.{terms_at}
use Rattle.term_store.specs.Trees.{term_of, all_trees}
use Rattle.equality_rules.specs.Checked.{IsRight}
use Rattle.equality_rules.proofs.Pairwise.{each}
use Rattle.equality_rules.proofs.Lists.{term_test}
use Rattle.equality_rules.proofs.typing.+is_typed.Given as goal

abbrev pub decreases-is_typed : goal.decreases-is_typed
decreases-is_typed l = 4 * term_depth (term_of l.store.now l.id) + 2

abbrev pub decreases-is_made_typed : goal.decreases-is_made_typed
decreases-is_made_typed l = 4 * term_depth (term_of l.store.now l.id) + 1

abbrev pub decreases-is_applied : goal.decreases-is_applied
decreases-is_applied l = 4 * terms_depth (terms_at (all_trees l.store.now).terms l.terms.now) + 4

abbrev pub decreases-are_typed : goal.decreases-are_typed
decreases-are_typed l = 4 * terms_depth (terms_at (all_trees l.store.now).terms l.ids.now) + 3

-- the terms up to the index are well typed
abbrev pub invariant-are_typed-loop-id : goal.invariant-are_typed-loop-id
invariant-are_typed-loop-id l = record {
  rest : each (term_test (map symbol_tree l.symbols) (all_trees l.store).terms) (drop l.id-index l.ids)
      ≡ each (term_test (map symbol_tree l.symbols) (all_trees l.store).terms) l.ids;
  right : IsRight l.store (map symbol_tree l.symbols) l.checked;
}

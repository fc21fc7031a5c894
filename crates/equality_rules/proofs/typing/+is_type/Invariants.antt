use Rattle.std.proofs.Common.{◌≡◌, ◌+◌, ◌*◌, drop, map}
use Rattle.zm_logic.specs.Measure.{type_depth, types_depth}
use Rattle.zm_logic.specs.View.{symbol_tree}
use Rattle.term_store.specs.Node.{types_at}
use Rattle.term_store.specs.Trees.{type_of, all_trees}
use Rattle.equality_rules.specs.Checked.{IsRight}
use Rattle.equality_rules.proofs.Pairwise.{each}
use Rattle.equality_rules.proofs.Lists.{type_test}
use Rattle.equality_rules.proofs.typing.+is_type.Given as goal

abbrev pub decreases-is_type : goal.decreases-is_type
decreases-is_type l = 3 * type_depth (type_of l.store.now l.id) + 2

abbrev pub decreases-is_made_type : goal.decreases-is_made_type
decreases-is_made_type l = 3 * type_depth (type_of l.store.now l.id) + 1

abbrev pub decreases-are_types : goal.decreases-are_types
decreases-are_types l = 3 * types_depth (types_at (all_trees l.store.now).types l.ids.now) + 3

-- the types up to the index are well typed
abbrev pub invariant-are_types-loop-id : goal.invariant-are_types-loop-id
invariant-are_types-loop-id l = record {
  rest : each (type_test (map symbol_tree l.symbols) (all_trees l.store).types) (drop l.id-index l.ids)
      ≡ each (type_test (map symbol_tree l.symbols) (all_trees l.store).types) l.ids;
  right : IsRight l.store (map symbol_tree l.symbols) l.checked;
}

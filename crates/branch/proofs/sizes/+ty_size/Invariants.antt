use Rattle.std.proofs.Common.{◌≡◌, ◌+◌, ◌*◌, take}
use Rattle.zm_logic.specs.Measure.{type_depth, types_depth, types_size}
use Rattle.term_store.specs.Node.{types_at}
use Rattle.term_store.specs.Trees.{type_of, all_trees}
use Rattle.branch.specs.Listed.{capped}
use Rattle.branch.specs.Sizes.{KnowsSizes}
use Rattle.branch.proofs.sizes.+ty_size.Given as goal

abbrev pub decreases-ty_size : goal.decreases-ty_size
decreases-ty_size l = 4 * type_depth (type_of l.store.now l.id) + 1

abbrev pub decreases-new_ty_size : goal.decreases-new_ty_size
decreases-new_ty_size l = 4 * type_depth (type_of l.store.now l.id)

abbrev pub decreases-symbol_size : goal.decreases-symbol_size
decreases-symbol_size l = 4 * types_depth (types_at (all_trees l.store.now).types l.ids.now) + 3

abbrev pub decreases-ty_sizes : goal.decreases-ty_sizes
decreases-ty_sizes l = 4 * types_depth (types_at (all_trees l.store.now).types l.ids.now) + 2

-- the sum of the sizes up to the index
abbrev pub invariant-ty_sizes-loop-id : goal.invariant-ty_sizes-loop-id
invariant-ty_sizes-loop-id l = record {
  sized : l.all ≡ capped (types_size (types_at (all_trees l.store).types (take l.id-index l.ids)));
  knows : KnowsSizes l.store l.kept;
}

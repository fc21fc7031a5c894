use Rattle.std.proofs.Common.{◌≡◌, ◌+◌, ◌*◌, take}
use Rattle.zm_logic.specs.Measure.{term_depth, terms_depth, terms_size}
use Rattle.term_store.specs.Node.{terms_at}
use Rattle.term_store.specs.Trees.{term_of, all_trees}
use Rattle.branch.specs.Listed.{capped}
use Rattle.branch.specs.Sizes.{KnowsSizes}
use Rattle.branch.proofs.sizes.+term_size.Given as goal

abbrev pub decreases-term_size : goal.decreases-term_size
decreases-term_size l = 4 * term_depth (term_of l.store.now l.id) + 1

abbrev pub decreases-new_term_size : goal.decreases-new_term_size
decreases-new_term_size l = 4 * term_depth (term_of l.store.now l.id)

abbrev pub decreases-applied_size : goal.decreases-applied_size
decreases-applied_size l = 4 * terms_depth (terms_at (all_trees l.store.now).terms l.terms.now) + 3

abbrev pub decreases-term_sizes : goal.decreases-term_sizes
decreases-term_sizes l = 4 * terms_depth (terms_at (all_trees l.store.now).terms l.ids.now) + 2

-- the sum of the sizes up to the index
abbrev pub invariant-term_sizes-loop-id : goal.invariant-term_sizes-loop-id
invariant-term_sizes-loop-id l = record {
  sized : l.all ≡ capped (terms_size (terms_at (all_trees l.store).terms (take l.id-index l.ids)));
  knows : KnowsSizes l.store l.kept;
}

use Rattle.std.proofs.Common.{◌+◌, ◌*◌, take}
use Rattle.term_store.specs.Node.{terms_at}
use Rattle.term_store.specs.Trees.{all_trees, Extends}
use Rattle.term_store.specs.Change.{AreTermIds}
use Rattle.unify.specs.View.{latest}
use Rattle.unify.specs.Solving.{all_terms, KnowsSolved}
use Rattle.unify.proofs.solving.+solved_term.Given as goal

abbrev pub decreases-solved_term : goal.decreases-solved_term
decreases-solved_term l = 2 * l.room

abbrev pub decreases-solved_terms : goal.decreases-solved_terms
decreases-solved_terms l = 2 * l.room + 1

-- the terms so far are solved
abbrev pub invariant-solved_terms-loop-id : goal.invariant-solved_terms-loop-id
invariant-solved_terms-loop-id l = record {
  made : AreTermIds l.store (all_terms (latest l.fn.store l.made) (terms_at (all_trees l.fn.store).terms (take l.id-index l.id-items))) l.all;
  kept : Extends l.fn.store l.store;
  knows : KnowsSolved l.store (latest l.store l.made) l.kept;
}

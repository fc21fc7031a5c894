use Rattle.std.proofs.Common.{◌+◌, ◌*◌, take}
use Rattle.term_store.specs.Node.{types_at}
use Rattle.term_store.specs.Trees.{all_trees, Extends}
use Rattle.term_store.specs.Change.{AreTypeIds}
use Rattle.unify.specs.View.{latest}
use Rattle.unify.specs.Solving.{all_types, KnowsSolved}
use Rattle.unify.proofs.solving.+solved_ty.Given as goal

abbrev pub decreases-solved_ty : goal.decreases-solved_ty
decreases-solved_ty l = 2 * l.room

abbrev pub decreases-solved_tys : goal.decreases-solved_tys
decreases-solved_tys l = 2 * l.room + 1

-- the types so far are solved
abbrev pub invariant-solved_tys-loop-id : goal.invariant-solved_tys-loop-id
invariant-solved_tys-loop-id l = record {
  made : AreTypeIds l.store (all_types (latest l.fn.store l.made) (types_at (all_trees l.fn.store).types (take l.id-index l.id-items))) l.all;
  kept : Extends l.fn.store l.store;
  knows : KnowsSolved l.store (latest l.store l.made) l.kept;
}

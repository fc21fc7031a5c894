use Rattle.std.proofs.Common.{◌+◌, ◌*◌, take}
use Rattle.zm_logic.specs.Measure.{type_depth, types_depth}
use Rattle.term_store.specs.Node.{types_at}
use Rattle.term_store.specs.Trees.{type_of, all_trees, Extends}
use Rattle.term_store.specs.Change.{change_of, changed_types, AreTypeIds, Knows}
use Rattle.term_store.proofs.store.Store.+change_ty.Given as goal

abbrev pub decreases-change_ty : goal.decreases-change_ty
decreases-change_ty l = 3 * type_depth (type_of l.self.now l.id) + 2

abbrev pub decreases-changed_ty : goal.decreases-changed_ty
decreases-changed_ty l = 3 * type_depth (type_of l.self.now l.id) + 1

abbrev pub decreases-change_tys : goal.decreases-change_tys
decreases-change_tys l = 3 * types_depth (types_at (all_trees l.self.now).types l.ids.now) + 3

abbrev pub invariant-change_tys-loop-id : goal.invariant-change_tys-loop-id
invariant-change_tys-loop-id l = record {
  made : AreTypeIds l.self (changed_types l.at (change_of l.fn.self l.change) (types_at (all_trees l.fn.self).types (take l.id-index l.id-items))) l.all;
  kept : Extends l.fn.self l.self;
  knows : Knows l.self l.change l.memo;
}

use Rattle.std.proofs.Common.{◌+◌, ◌*◌, ◌≤◌, take}
use Rattle.zm_logic.specs.Measure.{types_depth}
use Rattle.zm_logic.specs.View.{types_tree}
use Rattle.term_store.specs.Trees.{Extends}
use Rattle.term_store.specs.Change.{AreTypeIds}
use Rattle.term_store.proofs.store.Store.+enter_ty.Given as goal

abbrev pub decreases-enter_ty : goal.decreases-enter_ty
decreases-enter_ty l = 2 * l.room

abbrev pub decreases-enter_tys : goal.decreases-enter_tys
decreases-enter_tys l = 2 * l.room + 1

abbrev pub invariant-enter_tys-loop-ty : goal.invariant-enter_tys-loop-ty
invariant-enter_tys-loop-ty l = record {
  made : AreTypeIds l.self (types_tree (take l.ty-index l.ty-items)) l.all;
  fits : types_depth (types_tree (take l.ty-index l.ty-items)) ≤ l.room;
  kept : Extends l.fn.self l.self;
}

use Rattle.unify.specs.View.{latest}
use Rattle.unify.specs.Occurs.{LackTypes, types_load}
use Rattle.unify.proofs.TypeWalk.{Walks}
use Rattle.unify.proofs.ty_occurs.occurs_in_ty.Given as goal

abbrev pub invariant-loop-visit : goal.invariant-loop-visit
invariant-loop-visit l = record {
  walks : Walks l.store (latest l.store l.made) l.meta l.fn.within l.path.items;
  known : LackTypes l.store (latest l.store l.made) l.meta l.lacking;
}

abbrev pub decreases-loop-visit : goal.decreases-loop-visit
decreases-loop-visit l = types_load l.store (latest l.store l.made) l.path.items

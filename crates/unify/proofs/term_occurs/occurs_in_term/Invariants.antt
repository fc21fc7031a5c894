use Rattle.term_store.specs.Trees.{type_of}
use Rattle.unify.specs.View.{latest}
use Rattle.unify.specs.Occurs.{LackTerms, terms_load}
use Rattle.unify.proofs.TermWalk.{Walks}
use Rattle.unify.proofs.term_occurs.occurs_in_term.Given as goal

abbrev pub invariant-loop-visit : goal.invariant-loop-visit
invariant-loop-visit l = record {
  walks : Walks l.store (latest l.store l.made) l.meta.0 (type_of l.store l.meta.1) l.fn.within l.path.items;
  known : LackTerms l.store (latest l.store l.made) l.meta.0 (type_of l.store l.meta.1) l.lacking;
}

abbrev pub decreases-loop-visit : goal.decreases-loop-visit
decreases-loop-visit l = terms_load l.store (latest l.store l.made) l.path.items

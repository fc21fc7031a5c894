use Rattle.term_store.specs.Trees.{HasTerm, Extends}
use Rattle.store_speed.proofs.chains.of_constants.Given as goal

abbrev pub invariant-loop-link : goal.invariant-loop-link
invariant-loop-link l = record {
  has_first : HasTerm l.store l.first;
  has : HasTerm l.store l.chain;
  kept : Extends l.fn.store l.store;
}

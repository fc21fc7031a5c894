use Rattle.term_store.specs.Trees.{HasTerm, Extends}
use Rattle.store_speed.proofs.chains.of_metas.Given as goal

abbrev pub invariant-loop-number : goal.invariant-loop-number
invariant-loop-number l = record {
  has : HasTerm l.store l.chain;
  kept : Extends l.fn.store l.store;
}

use Rattle.term_store.specs.Trees.{HasTerm}
use Rattle.store_speed.proofs.chains.unified_in.Given as goal

-- the chains stay in the store
abbrev pub invariant-loop-time : goal.invariant-loop-time
invariant-loop-time l = record {
  has_left : HasTerm l.store l.left;
  has_right : HasTerm l.store l.right;
}

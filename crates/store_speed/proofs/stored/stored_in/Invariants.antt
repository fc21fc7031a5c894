use Rattle.term_store.specs.Trees.{HasTerm}
use Rattle.store_speed.proofs.stored.stored_in.Given as goal

-- the argument stays in the store
abbrev pub invariant-loop-call : goal.invariant-loop-call
invariant-loop-call l = HasTerm l.store l.argument

use Rattle.term_store.proofs.Kept.{still_term}
use Rattle.store_speed.proofs.stored.stored_in.Goals as goal

pub loop-call-preserved : goal.loop-call-preserved
loop-call-preserved c = still_term _ _ c.in_ok-id.ensures.kept _ c.loop-call.invariant

use Rattle.term_store.proofs.Kept.{still_term}
use Rattle.store_speed.proofs.chains.unified_in.Goals as goal

pub loop-time-init : goal.loop-time-init
loop-time-init c =
    record { has_left = still_term _ _ c.in_ok-right.ensures.kept _ c.in_ok-left.ensures.has; has_right = c.in_ok-right.ensures.has }

pub loop-time-preserved : goal.loop-time-preserved
loop-time-preserved c =
    let s = c.loop-time.store in
    let t = c.bindings.new.store in
    let so_far = c.loop-time.invariant in
    let kept = c.in_ok-count.ensures.kept in
    record { has_left = still_term s t kept _ so_far.has_left; has_right = still_term s t kept _ so_far.has_right }

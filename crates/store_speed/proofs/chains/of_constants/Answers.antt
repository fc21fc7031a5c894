use Rattle.term_store.proofs.Kept.{still_term, extends_more}
use Rattle.store_speed.proofs.chains.of_constants.Goals as goal

pub loop-link-init : goal.loop-link-init
loop-link-init c =
    let s = c.constant.new.store in
    let t = c.constant-2.new.store in
    let kept = c.in_ok-chain.ensures.kept in
    record {
      has_first = still_term s t kept _ c.in_ok-first.ensures.has;
      has = c.in_ok-chain.ensures.has;
      kept = extends_more _ s t c.in_ok-first.ensures.kept kept;
    }

pub loop-link-preserved : goal.loop-link-preserved
loop-link-preserved c =
    let s = c.loop-link.store in
    let t = c.applied.new.store in
    let so_far = c.loop-link.invariant in
    let kept = c.in_ok-chain-2.ensures.kept in
    record {
      has_first = still_term s t kept _ so_far.has_first;
      has = c.in_ok-chain-2.ensures.has;
      kept = extends_more _ s t so_far.kept kept;
    }

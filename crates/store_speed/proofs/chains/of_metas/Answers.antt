use Rattle.term_store.proofs.Kept.{still_type, still_term, extends_more}
use Rattle.store_speed.proofs.chains.of_metas.Goals as goal

pub meta-requires : goal.meta-requires
meta-requires c = still_type _ _ c.loop-number.invariant.kept c.args.ty c.requires

pub applied-requires-clause-second : goal.applied-requires-clause-second
applied-requires-clause-second c = still_term _ _ c.in_ok-first.ensures.kept c.loop-number.chain c.loop-number.invariant.has

pub loop-number-preserved : goal.loop-number-preserved
loop-number-preserved c =
    let r = c.args.store.now in
    let s = c.loop-number.store in
    let t = c.meta.new.store in
    record {
      has = c.in_ok-chain-2.ensures.has;
      kept = extends_more r s _ c.loop-number.invariant.kept (extends_more s t _ c.in_ok-first.ensures.kept c.in_ok-chain-2.ensures.kept);
    }

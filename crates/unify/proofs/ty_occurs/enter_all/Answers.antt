use Rattle.unify.proofs.TypeWalk.{entered_next}
use Rattle.unify.proofs.ty_occurs.enter_all.Goals as goal

pub loop-id-preserved : goal.loop-id-preserved
loop-id-preserved c =
    entered_next c.args.path.now.items c.loop-id.path.items c.push.new.self.items c.args.ids.now c.loop-id.id-index _ c.loop-id-test.true
    c.loop-id.invariant c.in_ok-push.ensures.items

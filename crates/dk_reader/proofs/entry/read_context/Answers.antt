use Rattle.std.proofs.Common.{Bool, map, subst}
use Rattle.dk_reader.specs.Seen.{seen}
use Rattle.dk_reader.specs.Parts.{context_seen}
use Rattle.dk_reader.specs.Before.{GoesOn}
use Rattle.dk_reader.proofs.entry.read_context.Goals as goal

pub returns-in_default : goal.returns-in_default
returns-in_default c = rw c.in_default.is at (c.in_ok-next.ensures.read (map seen c.args.tokens.now) c.loop-next.invariant)

pub returns-then-next : goal.returns-then-next
returns-then-next c =
    let step = rw c.in-Some.is at (c.in_ok-next.ensures.read (map seen c.args.tokens.now) c.loop-next.invariant) in
    subst (λ (b : Bool). GoesOn b c.args.names.now (map seen c.args.tokens.now) (map seen c.in-Some.next.rest.now) (context_seen c.in-Some.next.context) c.read_more.new.scope) c.if-next.true step

use Rattle.std.proofs.Common.{refl}
use Rattle.proof_terms.proofs.connectives.not_and_term.Goals as goal

pub returns : goal.returns
returns c p h =
    c.application.ensures p _ h (c.pairing-pair.ensures c.args.d _ _ _ refl c.proofs.ensures c.proofs-2.ensures (c.shown_by_both-body.ensures c.args.d refl))

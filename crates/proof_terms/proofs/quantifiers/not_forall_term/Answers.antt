use Rattle.std.proofs.Common.{refl}
use Rattle.proof_terms.proofs.quantifiers.not_forall_term.Goals as goal

pub returns : goal.returns
returns c p t g h a f =
    c.application.ensures p _ h
    (c.bind.ensures c.args.d t _ refl a (c.instance_by_contradiction-shown.ensures _ g (c.next.ensures c.args.d refl) f))

use Rattle.std.proofs.Common.{refl}
use Rattle.proof_terms.proofs.quantifiers.exists_term.Goals as goal

pub returns : goal.returns
returns c p t g h a f =
    c.at_two.ensures p _ _ h c.falsity.ensures
    (c.bind-bound.ensures c.args.d t _ refl a (c.over_instance-inner.ensures _ g (c.next.ensures c.args.d refl) f))

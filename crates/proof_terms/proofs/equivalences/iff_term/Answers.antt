use Rattle.std.proofs.Common.{refl}
use Rattle.proof_terms.proofs.equivalences.iff_term.Goals as goal

pub returns : goal.returns
returns c p h =
    c.at_two.ensures p _ _ h c.falsity.ensures
    (c.bind_implications-bound.ensures c.args.d _ refl (c.from_implications-body.ensures c.args.d refl))

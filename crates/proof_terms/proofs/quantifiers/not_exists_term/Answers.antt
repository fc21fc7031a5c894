use Rattle.std.proofs.Common.{refl}
use Rattle.proof_terms.proofs.quantifiers.not_exists_term.Goals as goal

pub returns : goal.returns
returns c p t v w g h a body u f =
    c.refuted_by_instance.ensures c.args.d _ g refl
    (c.application-used.ensures p _ h (c.by_instance-whole.ensures c.args.d t v w refl a body u)) f

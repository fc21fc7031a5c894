use Rattle.proof_terms.proofs.quantifiers.refuted_by.Goals as goal

pub returns : goal.returns
returns c n w d used =
    c.application.ensures _ _ (c.bind_refutation.ensures n d) (c.bind-refutation.ensures n _ w d c.proofs.ensures used)

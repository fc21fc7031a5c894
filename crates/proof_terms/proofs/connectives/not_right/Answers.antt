use Rattle.proof_terms.proofs.connectives.not_right.Goals as goal

pub returns : goal.returns
returns c n e =
    c.bind.ensures n _ _ e c.proofs.ensures
    (c.application-used.ensures _ _ c.copied.ensures (c.in_side-whole.ensures _ (c.variable.ensures n e)))

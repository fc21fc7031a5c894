use Rattle.proof_terms.proofs.connectives.pairing.Goals as goal

pub returns : goal.returns
returns c n t u v e a b body =
    c.bind.ensures n _ _ e c.prop.ensures (c.bind-inner.ensures _ _ _ (c.next.ensures n e) (c.from_both-domain.ensures n t u e a b) body)

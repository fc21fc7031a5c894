use Rattle.proof_terms.proofs.connectives.bind_both.Goals as goal

pub returns : goal.returns
returns c n e =
    c.bind.ensures n _ _ e c.proofs.ensures (c.bind_proof-inner.ensures _ (c.next.ensures n e))

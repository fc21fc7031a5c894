use Rattle.proof_terms.proofs.connectives.refute_both.Goals as goal

pub returns : goal.returns
returns c n e =
    c.bind.ensures n _ _ e c.refutations.ensures (c.bind_refutation-inner.ensures _ (c.next.ensures n e))

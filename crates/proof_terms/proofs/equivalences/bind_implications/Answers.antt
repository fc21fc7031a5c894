use Rattle.proof_terms.proofs.equivalences.bind_implications.Goals as goal

pub returns : goal.returns
returns c n t e body =
    c.bind.ensures n _ _ e c.implications-2.ensures
    (c.bind-inner.ensures _ _ t (c.next.ensures n e) c.implications.ensures body)

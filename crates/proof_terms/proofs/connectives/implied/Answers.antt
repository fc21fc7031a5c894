use Rattle.proof_terms.proofs.connectives.implied.Goals as goal

pub returns : goal.returns
returns c n e =
    c.bind.ensures n _ _ e c.proofs.ensures (c.by_contradiction-shown.ensures _ (c.next.ensures n e))

use Rattle.proof_terms.proofs.equivalences.case_proved.Goals as goal

pub returns : goal.returns
returns c m n f u =
    c.bind.ensures n _ _ u c.proofs.ensures (c.both_proved-body.ensures m n f u)

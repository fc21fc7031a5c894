use Rattle.proof_terms.proofs.equivalences.case_refuted.Goals as goal

pub returns : goal.returns
returns c m n g u =
    c.bind.ensures n _ _ u c.refutations.ensures (c.both_refuted-body.ensures m n g u)

use Rattle.proof_terms.proofs.equivalences.both_refuted.Goals as goal

pub returns : goal.returns
returns c m n g u =
    c.application.ensures _ _ (c.bind_refutation-refuted.ensures _ (c.next-3.ensures n u))
    (c.bind-refutation.ensures _ _ _ (c.next-2.ensures n u) c.proofs.ensures (c.there_and_back-shown.ensures n m _ u g (c.next.ensures n u)))

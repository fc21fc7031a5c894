use Rattle.lp_translation.proofs.quantified.not_exists_terms.Goals as goal

pub returns : goal.returns
returns c =
    c.not_exists_term.ensures _ _ _ _ _ c.proof_at-h.ensures c.terms_at-domain.ensures c.form_at-body.ensures c.term_at-u.ensures c.instance_at-instance.ensures

use Rattle.lp_translation.proofs.quantified.not_exists_types.Goals as goal

pub returns : goal.returns
returns c =
    c.not_exists_term.ensures _ _ _ _ _ c.proof_at-h.ensures c.types-domain.ensures c.form_at-body.ensures c.type_at-u.ensures c.type_instance_at-instance.ensures

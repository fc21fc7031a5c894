use Rattle.lp_translation.proofs.arguments.equal_arguments_at.Goals as goal

pub returns : goal.returns
returns c =
    c.application.ensures _ _ c.second_proof.ensures (c.chained-shown.ensures _ c.proof_at-h.ensures)

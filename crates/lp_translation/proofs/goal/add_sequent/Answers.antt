use Rattle.std.proofs.Common.{[], ◌∷◌, ◌-◌, length, ap, ◌∙◌, arith}
use Rattle.lp_terms.specs.Term.{Lp}
use Rattle.zm_logic.specs.View.{form_tree}
use Rattle.lp_translation.specs.ProofOf.{Hypotheses}
use Rattle.lp_translation.specs.View.{hypotheses_of}
use Rattle.lp_translation.proofs.BuildingHypotheses.{pushed}
use Rattle.lp_translation.proofs.BuildingGoal.{sequent_more}
use Rattle.lp_translation.proofs.goal.add_sequent.Goals as goal

pub returns-in_ok-push-in-len1-up : goal.returns-in_ok-push-in-len1-up
returns-in_ok-push-in-len1-up c =
    pushed _ _ _ c.in_ok-push-in-len1-up.ensures.items
    ∙ ap (λ (hs : Hypotheses). Hypotheses.more (form_tree c.last-item.result ∷ []) (Lp.free 0) hs) c.in_ok-add_premises-in-len1-up.ensures
    ∙ sequent_more c.args.forms.now (length c.args.forms.now - 1) c.last-item.result (hypotheses_of c.args.facts.now.items)
    (omega (arith, c.in-len1-up.len_at_least)) c.last-item.is

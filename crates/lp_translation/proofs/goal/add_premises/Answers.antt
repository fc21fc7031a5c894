use Rattle.std.proofs.Common.{[], ◌∷◌, ap, ◌∙◌, arith}
use Rattle.lp_terms.specs.Term.{Lp}
use Rattle.zm_logic.specs.View.{form_tree}
use Rattle.lp_signature.specs.Names.{premise_name}
use Rattle.lp_translation.specs.ProofOf.{Hypotheses}
use Rattle.lp_translation.specs.View.{hypotheses_of}
use Rattle.lp_translation.proofs.BuildingHypotheses.{pushed}
use Rattle.lp_translation.proofs.BuildingGoal.{forms_more}
use Rattle.lp_translation.proofs.goal.add_premises.Goals as goal

pub loop-number-preserved : goal.loop-number-preserved
loop-number-preserved c =
    pushed _ _ _ c.in_ok-push.ensures.items
    ∙ ap (λ (hs : Hypotheses). Hypotheses.more (form_tree c.index-forms-number.result ∷ []) (Lp.const (premise_name c.loop-number.number)) hs)
    c.loop-number.invariant
    ∙ forms_more c.args.forms.now c.loop-number.number c.index-forms-number.result (hypotheses_of c.args.facts.now.items) (omega arith)
    c.index-forms-number.is

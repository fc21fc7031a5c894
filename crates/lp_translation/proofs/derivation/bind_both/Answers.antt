use Rattle.std.proofs.Common.{ℕ, [], ◌∷◌, ap₂, ◌∙◌}
use Rattle.lp_terms.specs.Term.{Lp}
use Rattle.zm_logic.specs.View.{form_tree}
use Rattle.lp_translation.specs.ProofOf.{Hypotheses}
use Rattle.lp_translation.proofs.BuildingHypotheses.{pushed, kept_push, take_whole}
use Rattle.lp_translation.proofs.derivation.bind_both.Goals as goal

pub returns-clause-bound : goal.returns-clause-bound
returns-clause-bound c =
    pushed _ _ _ c.in_ok-push-2.ensures.items
    ∙ ap₂ (λ (hs : Hypotheses) (n : ℕ). Hypotheses.more (form_tree c.args.g.now ∷ []) (Lp.free n) hs)
    (pushed _ _ _ c.in_ok-push.ensures.items) c.in_ok-second.ensures

pub returns-clause-kept : goal.returns-clause-kept
returns-clause-kept c =
    kept_push _ _ _ _ c.in_ok-push-2.ensures.items (kept_push _ _ _ _ c.in_ok-push.ensures.items (take_whole c.args.facts.now.items))

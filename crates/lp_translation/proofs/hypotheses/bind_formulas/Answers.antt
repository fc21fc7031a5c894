use Rattle.std.proofs.Common.{ℕ, List, [], ◌∷◌, map, refl, ap, ap₂, ◌∙◌, arith, take_all}
use Rattle.lp_terms.specs.Term.{Lp}
use Rattle.zm_logic.specs.View.{form_tree}
use Rattle.zm_logic.specs.declared.tree.Form as code
use Rattle.lp_translation.specs.ProofOf.{Hypotheses, bound_by}
use Rattle.lp_translation.specs.View.{hypotheses_of}
use Rattle.lp_translation.proofs.BuildingHypotheses.{pushed, kept_push, take_whole, bound_more}
use Rattle.lp_translation.proofs.hypotheses.bind_formulas.Goals as goal

pub loop-form-init : goal.loop-form-init
loop-form-init c = record { bound = refl; variable = omega arith; kept = take_whole c.args.facts.now.items }

pub loop-form-preserved : goal.loop-form-preserved
loop-form-preserved c = record {
  bound =
      pushed _ _ _ c.in_ok-push.ensures.items
      ∙ ap₂ (λ (hs : Hypotheses) (n : ℕ). Hypotheses.more (form_tree c.form-item.result ∷ []) (Lp.free n) hs)
      c.loop-form.invariant.bound c.loop-form.invariant.variable
      ∙ bound_more c.args.first c.args.forms.now c.loop-form.form-index c.form-item.result (hypotheses_of c.args.facts.now.items)
      (omega arith) c.form-item.is;
  variable = omega (arith, c.in_ok-variable.ensures, c.loop-form.invariant.variable);
  kept = kept_push _ _ _ _ c.in_ok-push.ensures.items c.loop-form.invariant.kept;
}

pub returns-clause-bound : goal.returns-clause-bound
returns-clause-bound c =
    c.loop-form.invariant.bound
    ∙ ap (λ (fs : List code.Form). bound_by c.args.first (map form_tree fs) (hypotheses_of c.args.facts.now.items))
    (take_all c.loop-form.form-index c.args.forms.now (omega arith))

use Rattle.std.proofs.Common.{◌-◌, List, [], ◌∷◌, ◌++◌, length, ap, ◌∙◌, arith, take_all}
use Rattle.std.specs.Borrow.{Bor}
use Rattle.lp_terms.specs.Term.{Lp}
use Rattle.zm_logic.specs.View.{form_tree}
use Rattle.zm_logic.specs.declared.tree.Form as code
use Rattle.lp_translation.specs.ProofOf.{earliest}
use Rattle.lp_translation.specs.View.{found_proof, hypotheses_of}
use Rattle.lp_translation.specs.ViewOldest.{oldest_or, forms_of}
use Rattle.lp_translation.specs.declared.hypotheses.Fact.{Fact}
use Rattle.lp_translation.proofs.BuildingHypotheses.{oldest_is_earliest, looked_back}
use Rattle.lp_translation.proofs.hypotheses.earliest_proof.Goals as goal

pub loop-place-init : goal.loop-place-init
loop-place-init c =
    ap (λ (fs : List Fact). oldest_or (hypotheses_of fs) (forms_of c.push.new.self.items) Lp.sort)
    (take_all (length c.args.facts.now - 0) c.args.facts.now (omega arith))
    ∙ ap (λ (ws : List (Bor code.Form)). oldest_or (hypotheses_of c.args.facts.now) (forms_of ws) Lp.sort)
    (c.in_ok-push.ensures.items ∙ ap (λ (ws : List (Bor code.Form)). ws ++ c.args.form ∷ []) c.new-wanted.ensures.items)
    ∙ oldest_is_earliest (hypotheses_of c.args.facts.now) (form_tree c.args.form.now)

pub loop-place-preserved : goal.loop-place-preserved
loop-place-preserved c =
    looked_back c.args.facts.now c.loop-place.place c.index-facts-facts.result (forms_of c.loop-place.wanted.items)
    (forms_of c.look.new.wanted.items) (found_proof c.loop-place.found) (found_proof c.in_ok-found.found)
    (earliest (hypotheses_of c.args.facts.now) (form_tree c.args.form.now)) (omega arith) c.index-facts-facts.is c.in_ok-found.ensures
    c.loop-place.invariant

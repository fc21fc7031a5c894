use Rattle.std.proofs.Common.{ap, ◌∙◌, arith}
use Rattle.zm_logic.specs.View.{form_tree}
use Rattle.lp_signature.specs.View.{symbols_tree}
use Rattle.sequent_proof.specs.View.{tree_of}
use Rattle.lp_translation.specs.ProofOf.{Hypotheses}
use Rattle.lp_translation.specs.View.{hypotheses_of, plain_proof}
use Rattle.lp_translation.proofs.BuildingHypotheses.{pushed, kept_push}
use Rattle.lp_translation.proofs.BuildingNodes.{converted_is, converted_part, converted_below}
use Rattle.lp_translation.proofs.derivation.past_conversions.Goals as goal

pub loop-conversion-preserved : goal.loop-conversion-preserved
loop-conversion-preserved c =
    let ss = symbols_tree c.args.symbols.now in
    let t = tree_of c.loop-conversion.tree.now in
    let f = form_tree c.in-Some.conversion.first.now in
    let g = form_tree c.in-Some.conversion.second.now in
    let x = tree_of c.in-Some.conversion.child.now in
    let below = converted_below t f g x c.in-Some.ensures in
    record {
      value = λ d s.
          ap (λ (hs : Hypotheses). plain_proof ss d s hs x) (pushed _ _ _ c.in_ok-push.ensures.items)
          ∙ converted_is ss d s (hypotheses_of c.loop-conversion.facts.items) t f g x c.in-Some.ensures
          ∙ c.loop-conversion.invariant.value d s;
      part = converted_part ss t f g x c.in-Some.ensures c.loop-conversion.invariant.part;
      depth = omega (arith, below, c.loop-conversion.invariant.depth);
      kept = kept_push _ _ _ _ c.in_ok-push.ensures.items c.loop-conversion.invariant.kept;
    }

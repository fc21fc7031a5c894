use Rattle.std.proofs.Common.{refl, ap, subst, arith}
use Rattle.zm_logic.specs.View.{term_tree}
use Rattle.zm_logic.specs.declared.tree.Term.{Term}
use Rattle.proof_terms.specs.Made.{Makes}
use Rattle.lp_translation.specs.ViewPlace.{written_term}
use Rattle.lp_translation.proofs.BuildingArguments.{spine_more}
use Rattle.lp_translation.proofs.arguments.spine.Goals as goal

pub loop-term-preserved : goal.loop-term-preserved
loop-term-preserved c f h =
    subst (Makes c.application-applied.result)
    (spine_more c.args.place.now f _ _ c.args.terms.now c.loop-term.term-index c.term-item.result (omega arith) refl
    (ap (λ (x : Term). written_term c.args.place.now (term_tree x)) c.term-item.is))
    (c.application-applied.ensures _ _ (c.loop-term.invariant f h) c.term_at.ensures)

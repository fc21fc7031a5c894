use Rattle.std.proofs.Common.{refl, ap, subst, arith}
use Rattle.zm_logic.specs.View.{type_tree}
use Rattle.zm_logic.specs.declared.tree.Ty.{Ty}
use Rattle.proof_terms.specs.Made.{Makes}
use Rattle.lp_translation.specs.ViewPlace.{written_type}
use Rattle.lp_translation.proofs.BuildingArguments.{head_more}
use Rattle.lp_translation.proofs.arguments.symbol_at.Goals as goal

pub loop-ty-preserved : goal.loop-ty-preserved
loop-ty-preserved c =
    subst (Makes c.application-applied.result)
    (head_more c.args.place.now c.args.symbol.0 _ _ c.as_slice-ty-items.result.now c.loop-ty.ty-index c.ty-item.result (omega arith) refl
    (ap (λ (x : Ty). written_type c.args.place.now (type_tree x)) c.ty-item.is))
    (c.application-applied.ensures _ _ c.loop-ty.invariant c.type_at.ensures)

use Rattle.std.proofs.Common.{ap, ◌∙◌}
use Rattle.lp_terms.specs.Term.{Lp}
use Rattle.lp_terms.specs.View.{term_of}
use Rattle.zm_logic.specs.View.{type_tree}
use Rattle.lp_signature.specs.Names.{constant}
use Rattle.lp_signature.specs.Translation.{type_of}
use Rattle.lp_signature.specs.View.{symbols_tree, scope_tree}
use Rattle.lp_signature.proofs.Spines.{types_applied_more}
use Rattle.lp_signature.proofs.translation.+translate_type.Goals as goal

pub apply_to_types-loop-ty-preserved : goal.apply_to_types-loop-ty-preserved
apply_to_types-loop-ty-preserved t c =
    let symbols = symbols_tree c.args.symbols.now in
    let scope = scope_tree c.args.scope.now in
    types_applied_more symbols scope c.args.under (Lp.const (constant symbols c.args.symbol.0)) (term_of c.loop-ty.applied) (term_of c.in_ok-argument.argument)
    (term_of c.in_ok-applied-2.applied) c.as_slice-ty-items.result.now c.loop-ty.ty-index c.ty-item.result c.loop-ty-test.true c.in_ok-applied-2.ensures
    c.loop-ty.invariant (c.in_ok-argument.ensures ∙ ap (λ x. type_of symbols scope c.args.under (type_tree x)) c.ty-item.is)

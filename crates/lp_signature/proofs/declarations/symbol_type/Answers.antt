use Rattle.std.proofs.Common.{ap, ◌∙◌}
use Rattle.zm_logic.specs.View.{types_tree, sense_tree}
use Rattle.lp_signature.specs.Translation as translation
use Rattle.lp_signature.specs.View.{symbols_tree}
use Rattle.lp_signature.proofs.Declared.{typed_by}
use Rattle.lp_signature.proofs.declarations.symbol_type.Goals as goal

pub returns : goal.returns
returns c =
    let symbols = symbols_tree c.args.symbols.now in
    typed_by c.over_types_times.result symbols c.args.symbol.now.types _ _
    (c.in_ok-arrows.ensures ∙ ap (λ l. translation.arrows symbols 0 (types_tree l) (sense_tree c.args.symbol.now.sense)) c.as_slice.ensures)
    c.over_types_times.ensures

use Rattle.std.proofs.Common.{◌≡◌, take}
use Rattle.lp_terms.specs.Term as plain
use Rattle.lp_terms.specs.View.{term_of}
use Rattle.zm_logic.specs.View.{types_tree}
use Rattle.lp_signature.specs.Names as names
use Rattle.lp_signature.specs.Translation as translation
use Rattle.lp_signature.specs.View.{symbols_tree, scope_tree}
use Rattle.lp_signature.proofs.translation.+translate_type.Given as goal

abbrev pub invariant-apply_to_types-loop-ty : goal.invariant-apply_to_types-loop-ty
invariant-apply_to_types-loop-ty l =
    term_of l.applied
    ≡ translation.apply_types (symbols_tree l.symbols) (scope_tree l.scope) l.under (plain.Lp.const (names.constant (symbols_tree l.symbols) l.fn.symbol.0)) (types_tree (take l.ty-index l.ty-items))

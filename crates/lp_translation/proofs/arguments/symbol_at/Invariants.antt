use Rattle.std.proofs.Common.{take}
use Rattle.zm_logic.specs.View.{types_tree}
use Rattle.proof_terms.specs.Made.{Makes}
use Rattle.lp_translation.specs.ViewRules as shapes
use Rattle.lp_translation.proofs.arguments.symbol_at.Given as goal

-- the constant is at the types so far
abbrev pub invariant-loop-ty : goal.invariant-loop-ty
invariant-loop-ty l = Makes l.applied (shapes.head l.place l.fn.symbol.0 (types_tree (take l.ty-index l.ty-items)))

use Rattle.std.proofs.Common.{◌≡◌, drop}
use Rattle.lp_terms.specs.View.{term_of}
use Rattle.zm_logic.specs.View.{types_tree, sense_tree}
use Rattle.lp_signature.specs.Translation as translation
use Rattle.lp_signature.specs.View.{symbols_tree}
use Rattle.lp_signature.proofs.declarations.arrows.Given as goal

-- the arguments from the index on are added
abbrev pub invariant-loop-under : goal.invariant-loop-under
invariant-loop-under l =
    term_of l.product ≡ translation.arrows (symbols_tree l.symbols) l.under (types_tree (drop l.under l.arguments)) (sense_tree l.sense)

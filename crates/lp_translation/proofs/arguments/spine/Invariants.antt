use Rattle.std.proofs.Common.{take}
use Rattle.lp_terms.specs.Term.{Lp}
use Rattle.zm_logic.specs.View.{terms_tree}
use Rattle.proof_terms.specs.Made.{Makes}
use Rattle.lp_translation.specs.ViewRules as shapes
use Rattle.lp_translation.proofs.arguments.spine.Given as goal

-- the function is at the terms so far
abbrev pub invariant-loop-term : goal.invariant-loop-term
invariant-loop-term l =
    (f : Lp) → Makes l.fn.function f → Makes l.applied (shapes.spine l.place f (terms_tree (take l.term-index l.terms)))

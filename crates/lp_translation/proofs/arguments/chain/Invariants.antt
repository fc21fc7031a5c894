use Rattle.std.proofs.Common.{◌≡◌, drop}
use Rattle.lp_terms.specs.View.{term_of, terms_of}
use Rattle.zm_logic.specs.View.{terms_tree}
use Rattle.sequent_proof.specs.View.{trees_of}
use Rattle.lp_translation.specs.ViewRules as shapes
use Rattle.lp_translation.specs.ViewArguments.{wrap_of, equalities_in}
use Rattle.lp_translation.proofs.arguments.chain.Given as goal

-- the children that are left make the whole of the proof so far
abbrev pub invariant-loop-k : goal.invariant-loop-k
invariant-loop-k l =
    shapes.chain_by l.place (wrap_of l.wrap) (term_of l.link.f) (term_of l.link.h) (equalities_in (trees_of (drop l.k l.trees))) (terms_tree (drop l.k l.terms)) (terms_of (drop l.k l.rs))
    ≡ shapes.chain_by l.place (wrap_of l.wrap) (term_of l.initial.link.f) (term_of l.initial.link.h) (equalities_in (trees_of l.trees)) (terms_tree l.terms) (terms_of l.rs)

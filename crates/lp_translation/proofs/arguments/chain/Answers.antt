use Rattle.std.proofs.Common.{◌+◌, ◌-◌, List, length, drop, ap, ◌∙◌, arith, take_all, length-drop}
use Rattle.zm_logic.specs.View.{terms_tree}
use Rattle.zm_logic.specs.declared.tree.Term.{Term}
use Rattle.sequent_proof.specs.View.{tree_of}
use Rattle.lp_terms.specs.View.{term_of}
use Rattle.lp_translation.specs.ViewArguments.{wrap_of, equality_in}
use Rattle.lp_translation.specs.ViewRules.{next_proof}
use Rattle.lp_translation.proofs.BuildingArguments.{chain_back}
use Rattle.lp_translation.proofs.arguments.chain.Goals as goal

pub loop-k-preserved : goal.loop-k-preserved
loop-k-preserved c =
    chain_back c.args.place.now (wrap_of c.args.wrap.now) (term_of c.loop-k.link.f) (term_of c.loop-k.link.h) (term_of c.in_ok-link.link.f)
    (term_of c.in_ok-link.link.h) _ c.args.trees.now c.args.terms.now c.args.rs.now c.loop-k.k c.index-trees-k.result c.index-rs-k.result
    (omega arith) c.requires.terms c.requires.children c.index-trees-k.is c.index-rs-k.is c.in_ok-link.ensures.function
    (c.in_ok-link.ensures.proof
    ∙ ap (λ (us : List Term). next_proof c.args.place.now (wrap_of c.args.wrap.now) (equality_in (tree_of c.index-trees-k.result))
    (term_of c.loop-k.link.f) (term_of c.loop-k.link.h) (terms_tree us) (term_of c.index-rs-k.result))
    (take_all (length c.args.terms.now - (c.loop-k.k + 1)) (drop (c.loop-k.k + 1) c.args.terms.now)
    (omega (arith, length-drop (c.loop-k.k + 1) c.args.terms.now))))
    c.loop-k.invariant

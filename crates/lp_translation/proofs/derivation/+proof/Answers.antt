use Rattle.std.proofs.Common.{◌+◌, length, ap, ◌∙◌, arith}
use Rattle.lp_signature.specs.View.{symbols_tree, scope_tree}
use Rattle.sequent_proof.specs.View.{name_of, tree_of}
use Rattle.lp_translation.specs.ProofOf.{binds_before}
use Rattle.lp_translation.specs.View.{hypotheses_of}
use Rattle.lp_translation.proofs.BuildingChildren.{children_count, enough_at, child_part, child_depth}
use Rattle.lp_translation.proofs.derivation.+proof.Goals as goal

pub proof_of-returns-clause-value : goal.proof_of-returns-clause-value
proof_of-returns-clause-value t c =
    c.in_ok-made.ensures.value ∙ c.in_ok-tree.ensures.value c.args.number (scope_tree c.args.scope.now.items)

pub term_of_node-rule_term-requires-clause-children :
    goal.term_of_node-rule_term-requires-clause-children
term_of_node-rule_term-requires-clause-children t c =
    let node = c.node_of-node.result in
    let name = name_of node.name in
    ap length c.as_slice-4.ensures
    ∙ children_count (symbols_tree c.args.symbols.now) name 0 (binds_before name + c.args.number) (scope_tree c.enter.new.scope.items)
    (hypotheses_of c.args.facts.now.items) c.in_ok-children.children node.children.now c.in_ok-children.ensures.value

pub term_of_node-rule_term-requires-clause-enough :
    goal.term_of_node-rule_term-requires-clause-enough
term_of_node-rule_term-requires-clause-enough t c =
    enough_at (symbols_tree c.args.symbols.now) c.node_of-node.result (tree_of c.args.tree.now) c.as_slice-4.result.now
    c.node_of-node.ensures c.requires.part (term_of_node-rule_term-requires-clause-children t c)

pub terms_of_children-term_of_child-requires : goal.terms_of_children-term_of_child-requires
terms_of_children-term_of_child-requires t c =
    let xs = c.args.trees.now in
    let i = c.loop-child.child in
    let x = c.index-trees-child.result in
    let less = child_depth xs i x c.loop-child-test.true c.index-trees-child.is in (
      omega (arith, less, c.decreases),
      (child_part (symbols_tree c.args.symbols.now) xs i x c.loop-child-test.true c.index-trees-child.is c.loop-child.invariant.part).0,
    )

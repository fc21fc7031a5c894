use Rattle.std.proofs.Common.{◌≡◌, ◌+◌, ◌*◌, ◌++◌, drop}
use Rattle.lp_terms.specs.View.{terms_of}
use Rattle.lp_signature.specs.View.{symbols_tree, scope_tree}
use Rattle.sequent_proof.specs.Tree.{depth, depth_all}
use Rattle.sequent_proof.specs.View.{name_of, tree_of, trees_of}
use Rattle.lp_translation.specs.View.{hypotheses_of}
use Rattle.lp_translation.specs.ViewDerivation.{ArePart, plain_proofs}
use Rattle.lp_translation.proofs.derivation.+proof.Given as goal

abbrev pub decreases-proof_of : goal.decreases-proof_of
decreases-proof_of l = 4 * depth (tree_of l.tree.now) + 1

abbrev pub decreases-term_of_node : goal.decreases-term_of_node
decreases-term_of_node l = 4 * depth (tree_of l.tree.now)

abbrev pub decreases-terms_of_children : goal.decreases-terms_of_children
decreases-terms_of_children l = 4 * depth_all (trees_of l.trees.now) + 3

abbrev pub decreases-term_of_child : goal.decreases-term_of_child
decreases-term_of_child l = 4 * depth (tree_of l.tree.now) + 2

-- the terms so far, and those of the children that are left
abbrev pub invariant-terms_of_children-loop-child : goal.invariant-terms_of_children-loop-child
invariant-terms_of_children-loop-child l = record {
  value :
      terms_of l.terms ++ plain_proofs (symbols_tree l.symbols) (name_of l.name) l.child l.first (scope_tree l.scope.items) (hypotheses_of l.facts.items) (trees_of (drop l.child l.trees))
      ≡ plain_proofs (symbols_tree l.symbols) (name_of l.name) 0 l.first (scope_tree l.scope.items) (hypotheses_of l.facts.items) (trees_of l.trees);
  part : ArePart (symbols_tree l.symbols) (trees_of (drop l.child l.trees));
  scope : l.scope.items ≡ l.initial.scope.items;
  facts : l.facts.items ≡ l.initial.facts.items;
}

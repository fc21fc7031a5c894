use Rattle.std.proofs.Common.{ℕ, ◌≡◌, ◌≤◌, take, length}
use Rattle.lp_signature.specs.Translation as translation
use Rattle.lp_signature.specs.View.{symbols_tree}
use Rattle.sequent_proof.specs.Tree.{depth}
use Rattle.sequent_proof.specs.View.{tree_of}
use Rattle.lp_translation.specs.View.{hypotheses_of, plain_proof}
use Rattle.lp_translation.specs.ViewDerivation.{IsPart}
use Rattle.lp_translation.proofs.derivation.past_conversions.Given as goal

-- what was passed changes nothing but the facts
abbrev pub invariant-loop-conversion : goal.invariant-loop-conversion
invariant-loop-conversion l = record {
  value : (d : ℕ) (s : translation.Scope) →
      plain_proof (symbols_tree l.symbols) d s (hypotheses_of l.facts.items) (tree_of l.tree)
      ≡ plain_proof (symbols_tree l.symbols) d s (hypotheses_of l.initial.facts.items) (tree_of l.initial.tree);
  part : IsPart (symbols_tree l.symbols) (tree_of l.tree);
  depth : depth (tree_of l.tree) ≤ depth (tree_of l.initial.tree);
  kept : take (length l.initial.facts.items) l.facts.items ≡ l.initial.facts.items;
}

abbrev pub decreases-loop-conversion : goal.decreases-loop-conversion
decreases-loop-conversion l = depth (tree_of l.tree)

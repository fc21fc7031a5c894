-- The file of a proof.
use Rattle.std.specs.Prelude.{List}
use Rattle.lp_terms.specs.Signature.{Entry}
use Rattle.zm_logic.specs.Tree.{Problem}
use Rattle.zm_logic.specs.Truth.{refuted}
use Rattle.rule_select.specs.Selection.{all_kept}
use Rattle.branch.specs.Tableau.{Node}
use Rattle.sequent_proof.specs.Tree.{DTree}
use Rattle.pruning.specs.Trees.{tableau_derivation}
use Rattle.lp_translation.specs.Goal.{goal_entries}

-- the derivation of a tableau of the problem, without rules
abbrev pub proof_derivation : Problem → Node → DTree
proof_derivation p tree = tableau_derivation (refuted p) (refuted p) tree

-- the entries of its file: the problem's signature, and the goal with the derivation's term
abbrev pub proof_entries : Problem → Node → List Entry
proof_entries p tree = goal_entries p (all_kept p) (proof_derivation p tree)

-- What the definitions promise of one another. Each statement is the contract of a function of the module laws.
use Rattle.std.specs.Prelude.{ℕ, ◌≡◌, List, [], Some, All}
use Rattle.zm_logic.specs.Tree.{Form, Problem}
use Rattle.zm_logic.specs.Problem.{IsTypedProblem}
use Rattle.zm_logic.specs.Truth.{IsQuantifierFree, IsValuation, Falsifies, refuted}
use Rattle.branch.specs.Setting.{Setting}
use Rattle.branch.specs.Tableau.{Node, Leaf, IsTableau, current_leaf}
use Rattle.branch.specs.Stopping.{IsRoot, Cause, Stopped}
use Rattle.valuation.specs.Valuation.{valuation}

-- whatever the branch, a typed problem without quantifiers and equality gets a valuation
abbrev pub ProblemsHaveValuations : Type 0
ProblemsHaveValuations =
    (p : Problem) (branch : List Form) → IsTypedProblem p → All IsQuantifierFree (refuted p) → IsValuation (valuation branch p)

-- the valuation of the tree's current branch falsifies the problem
pub record FalsifiesAt (p : Problem) (root : List Form) (tree : Node) : Type 0 where
  pub leaf : Leaf
  pub is_current : current_leaf root tree ≡ Some leaf
  pub falsifies : Falsifies (valuation leaf.branch p) p

-- without rules, a saturated tableau falsifies a typed problem without quantifiers and equality
abbrev pub SaturatedTableauxFalsify : Type 0
SaturatedTableauxFalsify =
    (p : Problem) (s : Setting) (root : List Form) (budget : ℕ) (tree : Node) → IsTypedProblem p → All IsQuantifierFree (refuted p)
    → s.rules ≡ [] → IsRoot s (refuted p) root → IsTableau s root tree → Stopped s (refuted p) budget tree Cause.saturated
    → FalsifiesAt p root tree

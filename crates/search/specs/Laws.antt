-- What the definitions promise of one another. Each statement is the contract of a function of the module laws.
use Rattle.std.specs.Prelude.{ℕ, ◌≤◌, ◌≡◌, List, [], All}
use Rattle.zm_logic.specs.Tree.{Form, Problem}
use Rattle.zm_logic.specs.Problem.{IsTypedProblem}
use Rattle.zm_logic.specs.Truth.{IsQuantifierFree, refuted}
use Rattle.branch.specs.Setting.{Setting}
use Rattle.branch.specs.Tableau.{Node, IsTableau, count}
use Rattle.branch.specs.Stopping.{IsRoot, Cause, Stopped}
use Rattle.search.specs.Need.{weights, need}

-- without rules, no tableau of a typed problem without quantifiers and equality has more Steps than the problem needs
abbrev pub NeedBoundsTableaux : Type 0
NeedBoundsTableaux =
    (p : Problem) (s : Setting) (root : List Form) (tree : Node) → IsTypedProblem p → All IsQuantifierFree (refuted p) → s.rules ≡ []
    → IsRoot s (refuted p) root → IsTableau s root tree → count tree ≤ need (refuted p)

-- and with that many Steps to spend, and a weight of at most 512, it stops where it is saturated, whatever offers are taken
abbrev pub EnoughStepsSaturate : Type 0
EnoughStepsSaturate =
    (p : Problem) (s : Setting) (root : List Form) (budget : ℕ) (tree : Node) (why : Cause) → IsTypedProblem p
    → All IsQuantifierFree (refuted p) → s.rules ≡ [] → IsRoot s (refuted p) root → IsTableau s root tree
    → weights (refuted p) ≤ 512 → need (refuted p) ≤ budget → Stopped s (refuted p) budget tree why → why ≡ Cause.saturated

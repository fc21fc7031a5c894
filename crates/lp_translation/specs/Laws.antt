-- What the proof terms of derivations promise. Each statement is the contract of a function of the module laws.
use Rattle.std.specs.Prelude.{◌≡◌, []}
use Rattle.lp_terms.specs.Typing.{Context, Class, Has}
use Rattle.lp_terms.specs.WellFormed.{IsWellFormed}
use Rattle.zm_logic.specs.Tree.{Problem}
use Rattle.zm_logic.specs.Problem.{IsTypedProblem}
use Rattle.rule_select.specs.Selection.{Selection, IsSelection}
use Rattle.lp_signature.specs.Problem.{signature}
use Rattle.sequent_proof.specs.Tree.{DTree, added, IsDerivation}
use Rattle.lp_translation.specs.Goal.{goal_sequent, goal_type, goal_body, goal_entries, IsGoalFile}

-- typing is preserved: for every derivation of a typed problem's kept premises and negated conjecture modulo the selected
-- rules, the goal's body has the type of the conjecture's proofs, over the problem's signature and in the empty context
abbrev pub TypingIsPreserved : Type 0
TypingIsPreserved =
    (p : Problem) (s : Selection) (t : DTree) → IsTypedProblem p → IsSelection p s → IsDerivation p.symbols s.rules [] t
    → added t ≡ goal_sequent p s → Has (signature p s) Context.empty (goal_body p s t) (Class.of (goal_type p))

-- so the signature with the goal is a goal file of the problem
abbrev pub GoalFilesAreMade : Type 0
GoalFilesAreMade =
    (p : Problem) (s : Selection) (t : DTree) → IsTypedProblem p → IsSelection p s → IsDerivation p.symbols s.rules [] t
    → added t ≡ goal_sequent p s → IsGoalFile p s (goal_entries p s t)

-- and each of its entries is well formed after those before it
abbrev pub GoalFilesAreWellFormed : Type 0
GoalFilesAreWellFormed =
    (p : Problem) (s : Selection) (t : DTree) → IsTypedProblem p → IsSelection p s → IsDerivation p.symbols s.rules [] t
    → added t ≡ goal_sequent p s → IsWellFormed (goal_entries p s t)

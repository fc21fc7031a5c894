-- A worked example: the proof term of a derivation of  p => p,  where p is a proposition.
use Rattle.std.specs.Prelude.{codes, ◌≡◌, [], ◌∷◌, Some, None}
use Rattle.lp_terms.specs.Term.{Lp}
use Rattle.zm_logic.specs.Tree.{Form, Problem, implies}
use Rattle.zm_logic.specs.Laws.{proposition, p}
use Rattle.rule_select.specs.Selection.{all_kept}
use Rattle.lp_signature.specs.Names.{constant}
use Rattle.lp_signature.specs.Prelude.{prf, not_of, imp_of}
use Rattle.sequent_proof.specs.Rules.{RuleName}
use Rattle.sequent_proof.specs.Tree.{DTree, DTrees, IsDerivation}
use Rattle.lp_translation.specs.Goal.{goal_body, goal_entries, IsGoalFile}

-- p => p, with no premises
abbrev pub identity : Problem
identity = record { symbols = proposition ∷ []; premises = []; conjecture = implies p p }

-- from its negation p and ~p, which close
abbrev pub identity_tree : DTree
identity_tree =
    DTree.node (Form.negation (implies p p) ∷ []) RuleName.not_implies (Form.negation (implies p p)) None None
    (DTrees.more (DTree.node (p ∷ Form.negation p ∷ []) RuleName.closes p (Some (Form.negation p)) None DTrees.none) DTrees.none)

-- the proposition's constant
abbrev pub named : Lp
named = Lp.const (constant identity.symbols 1)

-- nnpp (imp p p) (h : prf (not (imp p p)) => h (x : prf p => nnpp p (k : prf (not p) => k x)))
abbrev pub identity_body : Lp
identity_body =
    Lp.app (Lp.app (Lp.const (codes "nnpp")) (imp_of named named))
    (Lp.abs (prf (not_of (imp_of named named)))
    (Lp.app (Lp.index 0)
    (Lp.abs (prf named) (Lp.app (Lp.app (Lp.const (codes "nnpp")) named) (Lp.abs (prf (not_of named)) (Lp.app (Lp.index 0) (Lp.index 1)))))))

-- the tree is a derivation, and its goal's body is this term
abbrev pub IdentityIsDerived : Type 0
IdentityIsDerived = IsDerivation identity.symbols [] [] identity_tree

abbrev pub IdentityIsWritten : Type 0
IdentityIsWritten = goal_body identity (all_kept identity) identity_tree ≡ identity_body

-- with it the problem has a goal file
abbrev pub IdentityHasAGoalFile : Type 0
IdentityHasAGoalFile = IsGoalFile identity (all_kept identity) (goal_entries identity (all_kept identity) identity_tree)

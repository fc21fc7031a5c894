-- The file of a goal: a problem's signature, and the goal with the proof term of a derivation.
use Rattle.std.specs.Prelude.{codes, ℕ, suc, ◌≡◌, List, [], ◌∷◌, ◌++◌, map}
use Rattle.lp_terms.specs.Term.{Lp}
use Rattle.lp_terms.specs.Signature.{Entry}
use Rattle.lp_terms.specs.Typing.{Context, Class, Has}
use Rattle.lp_terms.specs.WellFormed.{IsWellFormedAfter}
use Rattle.zm_logic.specs.Tree.{Form, Premise, Problem}
use Rattle.rule_select.specs.Selection.{Selection, kept_premises}
use Rattle.lp_signature.specs.Prelude.{prf}
use Rattle.lp_signature.specs.Names.{premise_name}
use Rattle.lp_signature.specs.Translation.{Scope, form_of, term_of}
use Rattle.lp_signature.specs.Problem.{signature}
use Rattle.lp_signature.specs.ProofTerms.{nn}
use Rattle.sequent_proof.specs.Tree.{DTree}
use Rattle.lp_translation.specs.ProofOf.{Hypotheses, proof}

-- the kept premises' constants prove them, in order, the first with the number k
abbrev pub by_premises : ℕ → List Premise → Hypotheses → Hypotheses
by_premises k [] hs = hs
by_premises k (p ∷ ps) hs = by_premises (suc k) ps (Hypotheses.more (p.form ∷ []) (Lp.const (premise_name k)) hs)

-- what is derived: the kept premises, and the negated conjecture
abbrev pub goal_sequent : Problem → Selection → List Form
goal_sequent p s = map (λ premise. premise.form) (kept_premises p s) ++ Form.negation p.conjecture ∷ []

-- the type of the goal: that of the conjecture's proofs
abbrev pub goal_type : Problem → Lp
goal_type p = prf (form_of p.symbols Scope.none p.conjecture)

-- by contradiction: the variable 0 proves the negated conjecture
abbrev pub goal_body : Problem → Selection → DTree → Lp
goal_body p s t =
    nn 0 (form_of p.symbols Scope.none p.conjecture)
    (proof p.symbols (form_of p.symbols) (term_of p.symbols) 1 Scope.none
    (Hypotheses.more (Form.negation p.conjecture ∷ []) (Lp.free 0) (by_premises 0 (kept_premises p s) Hypotheses.none)) t)

-- the entries of the goal's file
abbrev pub goal_entries : Problem → Selection → DTree → List Entry
goal_entries p s t = signature p s ++ Entry.define (codes "goal") (goal_type p) (goal_body p s t) ∷ []

-- a definition: its name, its type and its body
pub record Definition : Type 0 where
  pub name : List ℕ
  pub type : Lp
  pub body : Lp

abbrev pub definition : Definition → Entry
definition d = Entry.define d.name d.type d.body

-- A goal file of a problem and its selection: the signature, then definitions, each well formed after what precedes it,
-- and last the goal, whose type is that of the conjecture's proofs and whose body has that type.
pub record IsGoalFile (p : Problem) (s : Selection) (es : List Entry) : Type 0 where
  pub definitions : List Definition
  pub body : Lp
  pub entries : es ≡ signature p s ++ map definition definitions ++ Entry.define (codes "goal") (goal_type p) body ∷ []
  pub well_formed : IsWellFormedAfter (signature p s) (map definition definitions)
  pub typed : Has (signature p s ++ map definition definitions) Context.empty body (Class.of (goal_type p))

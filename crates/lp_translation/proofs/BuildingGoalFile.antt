-- The entries of a goal's file, as they are built.
use Rattle.std.proofs.Common.{codes, ◌≡◌, ◌<◌, List, [], ◌∷◌, ◌++◌, ap, ap₂, sym, ◌∙◌, subst}
use Rattle.std.proofs.lemmas.List.{map-append}
use Rattle.lp_terms.specs.Term.{Lp}
use Rattle.lp_terms.specs.Signature.{Entry}
use Rattle.lp_terms.specs.Measure.{binder_depth, limit}
use Rattle.lp_terms.specs.File.{IsFile}
use Rattle.lp_terms.specs.View.{entry_of, entries_of}
use Rattle.lp_terms.specs.declared.file.Entry as file
use Rattle.zm_logic.specs.Tree.{Form, Rule, Symbol, Problem}
use Rattle.zm_logic.specs.Problem.{IsTypedProblem}
use Rattle.zm_logic.specs.View.{form_tree}
use Rattle.zm_logic.specs.declared.problem.Symbol as symbol
use Rattle.zm_logic.specs.declared.problem.Problem as problem
use Rattle.rule_select.specs.Selection.{Selection, IsSelection, kept_premises}
use Rattle.lp_signature.specs.Prelude.{prf}
use Rattle.lp_signature.specs.Translation.{Scope, form_of}
use Rattle.lp_signature.specs.Problem.{signature}
use Rattle.lp_signature.specs.ProofTerms.{nn}
use Rattle.lp_signature.specs.Laws.{GoalNameIsNew}
use Rattle.lp_signature.specs.View.{symbols_tree}
use Rattle.sequent_proof.specs.Tree.{DTree, added, IsDerivation, IsKept}
use Rattle.sequent_proof.specs.View.{tree_of}
use Rattle.sequent_proof.specs.declared.tree.DTree as code
use Rattle.lp_translation.specs.ProofOf.{Hypotheses}
use Rattle.lp_translation.specs.View.{plain_proof}
use Rattle.lp_translation.specs.ViewGoal.{by_sequent}
use Rattle.lp_translation.specs.Goal.{by_premises, goal_sequent, goal_type, goal_body, goal_entries}
use Rattle.lp_translation.specs.Laws.{GoalFilesAreWellFormed}
use Rattle.lp_translation.proofs.BuildingGoal.{goal_hypotheses}
use Rattle.lp_translation.proofs.BuildingFile.{with_definition}

-- the proof that is built is that of the goal's sequent
refutation_is : (p : Problem) (s : Selection) (t : DTree) → added t ≡ goal_sequent p s
    → plain_proof p.symbols 1 Scope.none (by_sequent (added t) Hypotheses.none) t
    ≡ plain_proof p.symbols 1 Scope.none
    (Hypotheses.more (Form.negation p.conjecture ∷ []) (Lp.free 0) (by_premises 0 (kept_premises p s) Hypotheses.none)) t
refutation_is p s t e =
    ap (λ (fs : List Form). plain_proof p.symbols 1 Scope.none (by_sequent fs Hypotheses.none) t) e
    ∙ ap (λ (hs : Hypotheses). plain_proof p.symbols 1 Scope.none hs t) (goal_hypotheses p s)

module _ (p : Problem) (s : Selection) (t : DTree) (conjecture refutation : Lp)
    (sequent : added t ≡ goal_sequent p s) (c : conjecture ≡ form_of p.symbols Scope.none p.conjecture)
    (r : refutation ≡ plain_proof p.symbols 1 Scope.none (by_sequent (added t) Hypotheses.none) t) where
  type_is : prf conjecture ≡ goal_type p
  type_is = ap prf c

  body_is : nn 0 conjecture refutation ≡ goal_body p s t
  body_is = ap₂ (λ (f x : Lp). nn 0 f x) c (r ∙ refutation_is p s t sequent)

  pub entries_are : (sigma : List Entry) (e : Entry) → sigma ≡ signature p s
      → e ≡ Entry.define (codes "goal") (prf conjecture) (nn 0 conjecture refutation) → sigma ++ e ∷ [] ≡ goal_entries p s t
  entries_are sigma e k i =
      ap₂ (λ (es : List Entry) (x : Entry). es ++ x ∷ []) k
      (i ∙ ap₂ (λ (a b : Lp). Entry.define (codes "goal") a b) type_is body_is)

  pub goal_is_file : GoalFilesAreWellFormed → GoalNameIsNew → IsTypedProblem p → IsSelection p s → IsDerivation p.symbols s.rules [] t
      → (sigma : List Entry) (e : Entry) → sigma ≡ signature p s → IsFile sigma
      → e ≡ Entry.define (codes "goal") (prf conjecture) (nn 0 conjecture refutation)
      → binder_depth (prf conjecture) < limit → binder_depth (nn 0 conjecture refutation) < limit → IsFile (sigma ++ e ∷ [])
  goal_is_file well_formed new good selects derived sigma e k f i m n =
      subst IsFile (sym (entries_are sigma e k i))
      (with_definition (signature p s) (codes "goal") (goal_type p) (goal_body p s t) (subst IsFile k f)
      (well_formed p s t good selects derived sequent) (new p s)
      (subst (λ (a : Lp). binder_depth a < limit) type_is m) (subst (λ (b : Lp). binder_depth b < limit) body_is n))

-- the entries with the goal pushed
pushed : (es us : List file.Entry) (x : file.Entry) → us ≡ es ++ x ∷ [] → entries_of us ≡ entries_of es ++ entry_of x ∷ []
pushed es us x e = ap entries_of e ∙ map-append entry_of es (x ∷ [])

module _ (p : Problem) (s : Selection) (t : DTree) (conjecture refutation : Lp)
    (sequent : added t ≡ goal_sequent p s) (c : conjecture ≡ form_of p.symbols Scope.none p.conjecture)
    (r : refutation ≡ plain_proof p.symbols 1 Scope.none (by_sequent (added t) Hypotheses.none) t)
    (es us : List file.Entry) (x : file.Entry) (more : us ≡ es ++ x ∷ []) (k : entries_of es ≡ signature p s)
    (i : entry_of x ≡ Entry.define (codes "goal") (prf conjecture) (nn 0 conjecture refutation)) where
  pub built_entries : entries_of us ≡ goal_entries p s t
  built_entries = pushed es us x more ∙ entries_are p s t conjecture refutation sequent c r (entries_of es) (entry_of x) k i

  pub built_file : GoalFilesAreWellFormed → GoalNameIsNew → IsTypedProblem p → IsSelection p s → IsDerivation p.symbols s.rules [] t
      → IsFile (entries_of es) → binder_depth (prf conjecture) < limit → binder_depth (nn 0 conjecture refutation) < limit
      → IsFile (entries_of us)
  built_file well_formed new good selects derived f m n =
      subst IsFile (sym (pushed es us x more))
      (goal_is_file p s t conjecture refutation sequent c r well_formed new good selects derived (entries_of es) (entry_of x) k f i m n)

-- what is read of the problem and of the derivation
pub refutation_of : (ss us : List symbol.Symbol) (t u : code.DTree) (r : Lp) → ss ≡ us → t ≡ u
    → r ≡ plain_proof (symbols_tree ss) 1 Scope.none (by_sequent (added (tree_of t)) Hypotheses.none) (tree_of t)
    → r ≡ plain_proof (symbols_tree us) 1 Scope.none (by_sequent (added (tree_of u)) Hypotheses.none) (tree_of u)
refutation_of ss us t u r a b e =
    e ∙ ap₂ (λ (xs : List symbol.Symbol) (v : code.DTree). plain_proof (symbols_tree xs) 1 Scope.none (by_sequent (added (tree_of v)) Hypotheses.none) (tree_of v)) a b

pub conjecture_of : (ss : List symbol.Symbol) (p q : problem.Problem) (f : Lp) → ss ≡ q.symbols → p ≡ q
    → f ≡ form_of (symbols_tree ss) Scope.none (form_tree p.conjecture) → f ≡ form_of (symbols_tree q.symbols) Scope.none (form_tree q.conjecture)
conjecture_of ss p q f a b e =
    e ∙ ap₂ (λ (xs : List symbol.Symbol) (o : problem.Problem). form_of (symbols_tree xs) Scope.none (form_tree o.conjecture)) a b

pub derives_at : (ss us : List Symbol) (rs qs : List Rule) (t : DTree) → ss ≡ us → rs ≡ qs → IsKept ss rs t → IsDerivation us qs [] t
derives_at ss us rs qs t a b k =
    subst (λ (xs : List Rule). IsDerivation us xs [] t) b (subst (λ (xs : List Symbol). IsDerivation xs rs [] t) a k.derives)

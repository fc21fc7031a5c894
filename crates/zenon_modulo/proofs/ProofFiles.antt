-- The file of a closed tableau is a goal file.
use Rattle.std.proofs.Common.{ℕ, ◌≡◌, refl, sym, ap, ap₂, ◌∙◌, List, [], ◌∷◌, ◌++◌, inr, map}
use Rattle.zm_logic.specs.Tree.{Form, Premise, Problem}
use Rattle.zm_logic.specs.Truth.{refuted}
use Rattle.rule_select.specs.Selection.{Selection, KeepsAll, all_kept}
use Rattle.rule_select.specs.Laws.{KeepingAllKeepsThePremises}
use Rattle.branch.specs.Normal.{Made, Normalizes, MakesAll}
use Rattle.branch.specs.Stopping.{IsRoot}
use Rattle.branch.specs.State as state
use Rattle.branch.specs.State.{State, IsKept, given_forms}
use Rattle.branch.proofs.NoRules.{itself, sound_without_rules}
use Rattle.branch.proofs.Lawful.{refuted_given}
use Rattle.param_store.specs.View.{forms_of}
use Rattle.search.specs.Searched.{IsGrownOf}
use Rattle.pruning.specs.Laws.{ClosedTableauxAreDerivations, EndSequentsAreGiven}
use Rattle.pruning.specs.Started.{IsStartedFrom, normal_forms, derivation}
use Rattle.pruning.specs.Trees.{tableau_derivation}
use Rattle.sequent_proof.specs.Tree.{DTree}
use Rattle.lp_signature.specs.WellFormedLaws.{SignaturesAreWellFormed}
use Rattle.lp_translation.specs.Goal.{goal_sequent, goal_entries}
use Rattle.lp_translation.specs.Laws.{GoalFilesAreMade}
use Rattle.zenon_modulo.specs.ProofFile.{proof_derivation, proof_entries}
use Rattle.zenon_modulo.specs.Claims.{setting, root}
use Rattle.zenon_modulo.specs.Laws.{ClosedTableauxMakeGoalFiles}

-- without rules each formula is its own normal form
own_forms : (p : Problem) (fs : List Form) → MakesAll (Normalizes (setting p)) fs (Made.made fs)
own_forms p [] = MakesAll.none
own_forms p (f ∷ fs) = MakesAll.more (itself f 10000 f) (own_forms p fs)

abbrev begun : (p : Problem) → IsRoot (setting p) (refuted p) (root p)
begun p = record { normal = refuted p; reached = own_forms p (refuted p); distinct = refl }

pub sequent_is : KeepingAllKeepsThePremises → (p : Problem) → refuted p ≡ goal_sequent p (all_kept p)
sequent_is kept p = ap (λ (ps : List Premise). map (λ q. q.form) ps ++ Form.negation p.conjecture ∷ []) (sym (kept p (all_kept p) refl))

module _ (kept : KeepingAllKeepsThePremises) (derive : ClosedTableauxAreDerivations) (ends : EndSequentsAreGiven)
    (well : SignaturesAreWellFormed) (files : GoalFilesAreMade) where
  pub make_goal_files : ClosedTableauxMakeGoalFiles
  make_goal_files p tree typed t finished = (
    files p (all_kept p) (proof_derivation p tree) typed (inr refl)
        (derive (setting p) (refuted p) (root p) tree (sound_without_rules (setting p) typed.signature refl)
        (refuted_given p typed (setting p) refl) (begun p) t finished)
        (ends (refuted p) (refuted p) tree ∙ sequent_is kept p),
    well p (all_kept p) typed (inr refl),
  )

-- a search's tableau was started from the problem, with every premise kept
pub started : KeepingAllKeepsThePremises → (p : Problem) (steps : ℕ) (t : State) → IsGrownOf p steps 10000 t → IsStartedFrom p (all_kept p) t
started kept p steps t g = record { symbols = g.symbols; rules = refl; given = g.given ∙ sequent_is kept p }

-- the entries that are made of a derivation of the tableau
pub entries_are : KeepingAllKeepsThePremises → (p : Problem) (s : Selection) (t : State) (d : DTree) → KeepsAll p s → IsStartedFrom p (all_kept p) t → IsKept t
    → d ≡ derivation t → goal_entries p s d ≡ proof_entries p (state.tree t)
entries_are kept p s t d keeps from k e =
    let given : given_forms t ≡ refuted p = from.given ∙ sym (sequent_is kept p) in
    let normal : normal_forms t ≡ refuted p = ap (forms_of t.store) k.begun.normal ∙ given in
    ap₂ (λ x y. goal_entries p x y) keeps (e ∙ ap₂ (λ x y. tableau_derivation x y (state.tree t)) given normal)

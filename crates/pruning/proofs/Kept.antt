-- The derivation of a tableau that is kept is one that a derivation keeps.
use Rattle.std.proofs.Common.{◌≡◌, ℕ, ◌≤◌, true, refl, ap, sym, subst, ◌∙◌, List, [], ◌∷◌, arith}
use Rattle.zm_logic.specs.Tree.{Form, Problem}
use Rattle.zm_logic.proofs.Sames.{Contains-none}
use Rattle.param_store.specs.View.{forms_of}
use Rattle.rule_select.specs.Selection.{Selection}
use Rattle.branch.specs.Branch.{extend}
use Rattle.branch.specs.Normal.{Made, Normalizes, NormalizesFrom, MakesAll}
use Rattle.branch.specs.Setting.{Setting}
use Rattle.branch.specs.Stopping.{IsRoot}
use Rattle.branch.specs.State.{State, setting, given_forms, root, tree, IsKept}
use Rattle.branch.specs.Tableau.{is_finished}
use Rattle.branch.proofs.NoRules.{itself, sound_without_rules}
use Rattle.sequent_proof.specs.Tree as plain
use Rattle.pruning.specs.Trees.{tableau_derivation}
use Rattle.pruning.specs.Started.{IsStartedFrom, end_sequent, normal_forms, derivation}
use Rattle.pruning.proofs.Members.{all_within}
use Rattle.pruning.proofs.Root.{closed_tableaux_are_derivations, end_sequents_are_given}
use Rattle.pruning.proofs.Depth.{derivations_are_shallow}

-- without rules each formula is its own normal form
all_themselves : (s : Setting) → s.rules ≡ [] → (fs : List Form) → MakesAll (Normalizes s) fs (Made.made fs)
all_themselves s e [] = MakesAll.none
all_themselves s e (f ∷ fs) = MakesAll.more (subst (λ r. NormalizesFrom r f s.rewrites f (Made.made f)) (sym e) (itself f s.rewrites f)) (all_themselves s e fs)

few : (d : ℕ) → d ≤ 513 → d ≤ 4294967295
few d l = omega arith

module _ (t : State) (kept : IsKept t) where
  -- each given formula is its own normal form
  normal_is : normal_forms t ≡ given_forms t
  normal_is = ap (forms_of t.store) kept.begun.normal

  root_is : extend [] (given_forms t) ≡ root t
  root_is = ap (extend []) (sym normal_is)

  pub tableau_kept : is_finished (tree t) ≡ true → plain.IsKept (setting t).symbols (setting t).rules (derivation t)
  tableau_kept finished =
      let s = setting t in
      let sound = sound_without_rules s kept.begun.signature refl in
      let is : IsRoot s (given_forms t) (root t) = record { normal = given_forms t; reached = all_themselves s refl (given_forms t); distinct = root_is } in
      subst (λ fs. plain.IsKept s.symbols s.rules (tableau_derivation (given_forms t) fs (tree t))) (sym normal_is)
      (record {
        rules_are_typed = all_within (plain.IsProofRule s.symbols []) [] (λ r m. absurd (Contains-none r m));
        derives = closed_tableaux_are_derivations s (given_forms t) (root t) (tree t) sound kept.begun.given is kept.tree.tableau finished;
        shallow = few (plain.depth (tableau_derivation (given_forms t) (given_forms t) (tree t)))
            (derivations_are_shallow s (given_forms t) (root t) (tree t) refl is kept.tree.tableau);
      })

  -- as it is for the problem and the selection that the tableau was started from
  pub started_kept : (p : Problem) (s : Selection) → IsStartedFrom p s t → is_finished (tree t) ≡ true → plain.IsKept p.symbols s.rules (derivation t)
  started_kept p s from finished =
      subst (λ rules. plain.IsKept p.symbols rules (derivation t)) from.rules
      (subst (λ symbols. plain.IsKept symbols (setting t).rules (derivation t)) from.symbols (tableau_kept finished))

  pub started_adds : (p : Problem) (s : Selection) → IsStartedFrom p s t → plain.added (derivation t) ≡ end_sequent p s
  started_adds p s from = end_sequents_are_given (given_forms t) (normal_forms t) (tree t) ∙ from.given

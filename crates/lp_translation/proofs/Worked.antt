-- The worked example.
use Rattle.std.proofs.Common.{ℕ, zero, suc, ◌≡◌, ◌≤◌, inr, [], ◌∷◌, Some, refl, sym, ◌∙◌, subst, arith, All, take}
use Rattle.std.proofs.lemmas.List.Elements.{All-nil, All-cons}
use Rattle.zm_logic.specs.Tree.{Form, Symbol, implies}
use Rattle.zm_logic.specs.Laws.{proposition, p}
use Rattle.zm_logic.specs.Typing.{WellTyped, IsDeclaration, nth}
use Rattle.zm_logic.specs.Problem.{IsProblemForm, IsTypedProblem, symbol_depth}
use Rattle.zm_logic.proofs.Sames.{Contains-here, Contains-there}
use Rattle.rule_select.specs.Laws.{SelectedRulesAreSound, StepsKeepTyping}
use Rattle.rule_select.specs.Selection.{all_kept}
use Rattle.lp_signature.specs.WellFormedLaws.{SignaturesAreWellFormed}
use Rattle.sequent_proof.specs.Rules.{Applies}
use Rattle.lp_translation.specs.Worked.{identity, identity_tree, IdentityIsDerived, IdentityIsWritten, IdentityHasAGoalFile}
use Rattle.lp_translation.proofs.GoalIsTyped.{goal_files_are_made}

p_typed : WellTyped identity.symbols p
p_typed = WellTyped.atom (proposition, (refl, refl), refl, tt, tt)

pub identity_is_derived : IdentityIsDerived
identity_is_derived =
    let no : Form = Form.negation (implies p p) in
    let no_typed : WellTyped identity.symbols no = WellTyped.negation (WellTyped.binary p_typed p_typed) in
    let root : All (WellTyped identity.symbols) (no ∷ []) = All-cons (WellTyped identity.symbols) no [] no_typed (All-nil (WellTyped identity.symbols)) in (
      root,
      (
        ((p ∷ Form.negation p ∷ []) ∷ []),
        Applies.not_implies p p (Contains-here no []),
        (
          refl,
          (
            All-cons (WellTyped identity.symbols) p (Form.negation p ∷ no ∷ []) p_typed
                (All-cons (WellTyped identity.symbols) (Form.negation p) (no ∷ []) (WellTyped.negation p_typed) root),
            (
              [],
              Applies.closes p (Contains-here p (Form.negation p ∷ no ∷ []))
                  (Contains-there p (Form.negation p ∷ no ∷ []) (Form.negation p) (Contains-here (Form.negation p) (no ∷ []))),
              tt,
            ),
          ),
          tt,
        ),
      ),
    )

pub identity_is_written : IdentityIsWritten
identity_is_written = refl

one_symbol : (n : ℕ) (d : Symbol) → nth identity.symbols n ≡ Some d → (n ≡ 0) × (proposition ≡ d)
one_symbol zero d e = (refl, cc)
one_symbol (suc n) d e = absurd (cc)

identity_is_typed : IsTypedProblem identity
identity_is_typed = record {
  signature = λ n d e. declared n d e;
  shallow = All-cons (λ d. symbol_depth d ≤ 1500) proposition [] (omega arith) (All-nil (λ d. symbol_depth d ≤ 1500));
  names = λ m n d e h k same. (one_symbol m d h).0 ∙ sym (one_symbol n e k).0;
  premises = All-nil (λ premise. IsProblemForm identity.symbols premise.form);
  conjecture = record { typed = WellTyped.binary p_typed p_typed; parameters = ((tt, tt), (tt, tt)); shallow = omega arith };
}
  where
    declared : (n : ℕ) (d : Symbol) → nth identity.symbols n ≡ Some d → IsDeclaration (take n identity.symbols) d
    declared n d e = subst (IsDeclaration (take n identity.symbols)) (one_symbol n d e).1 (tt, tt, tt)

pub identity_has_a_goal_file : SelectedRulesAreSound → StepsKeepTyping → SignaturesAreWellFormed → IdentityHasAGoalFile
identity_has_a_goal_file sound keep well_formed =
    goal_files_are_made sound keep well_formed identity (all_kept identity) identity_tree identity_is_typed (inr refl) identity_is_derived refl

-- The laws, each in the words of its contract.
use Rattle.std.proofs.Common.{◌≡◌, Bool, true, false, refl, sym, subst, ◌∙◌, arith, List, [], ◌∷◌, ◌⊎◌, inl, inr, Contains, None, Some, map}
use Rattle.std.proofs.lemmas.List.Elements.{All-contains, Contains-append_cases}
use Rattle.branch.proofs.Rules.{fresh_for_all}
use Rattle.zm_logic.specs.Tree.{Form, Premise, Problem}
use Rattle.zm_logic.specs.Parameter.{HasNoParameter}
use Rattle.zm_logic.specs.Typing.{WellTyped, IsSignature}
use Rattle.zm_logic.specs.Problem.{IsProblemForm, IsTypedProblem}
use Rattle.zm_logic.specs.Calculus.{Derives}
use Rattle.zm_logic.specs.Truth.{refuted}
use Rattle.zm_logic.proofs.Sames.{Contains-here, Contains-there, Contains-cases, Contains-none, only}
use Rattle.param_store.specs.RawOffers.{number_of}
use Rattle.branch.specs.Setting.{Setting}
use Rattle.branch.specs.Sound.{AreGiven}
use Rattle.branch.specs.BranchOffers.{Entry, AreRawOffers}
use Rattle.branch.specs.Tableau.{Leaf, enter, is_finished, current_leaf}
use Rattle.branch.specs.Laws as laws
use Rattle.branch.specs.Introduced.{HasFacts}
use Rattle.branch.proofs.Offered.{raw_offered}
use Rattle.branch.proofs.NoRules.{sound_without_rules}
use Rattle.branch.proofs.Root.{root_given, tableau_derives}
use Rattle.branch.proofs.Everywhere.{tableau_facts, delta_is_fresh}
use Rattle.branch.proofs.Determined.{one_offers}
use Rattle.branch.proofs.Picks.{picks_determine}
use Rattle.branch.proofs.Stopped.{at_current, one_cause}
use Rattle.branch.proofs.OpenLeaves.{finished_current, unfinished_current}
use Rattle.branch.proofs.QuantifierFree.{raw_splits}
use Rattle.branch.proofs.Splits.{offers_are, no_fault}
use Rattle.branch.proofs.SplitsThere.{raw_there, offers_there}
use Rattle.branch.proofs.FreeBranches.{tableau_free}
use Rattle.branch.proofs.FreeRoots.{root_free}
use Rattle.branch.proofs.Replacing.{step_lawful, unskipped, replaced_lawful, replaced_picks, replaced_count, replaced_height, replaced_current}

pub raw_offers_are_by_rule : laws.RawOffersAreByRule
raw_offers_are_by_rule s table branch entries h p m = raw_offered s table branch entries h (Entry.offer p) m

pub signatures_alone_are_sound : laws.SignaturesAloneAreSound
signatures_alone_are_sound = sound_without_rules

pub roots_are_given : laws.RootsAreGiven
roots_are_given s given root sound h is = root_given s sound given root h is

pub facts_hold_on_each_branch : laws.FactsHoldOnEachBranch
facts_hold_on_each_branch s root tree sound h t = tableau_facts s sound root tree h t

pub facts_hold_at_the_current_leaf : laws.FactsHoldAtTheCurrentLeaf
facts_hold_at_the_current_leaf s root tree leaf sound h t e =
    at_current (HasFacts s) tree (enter [] root) [] root 0 leaf (tableau_facts s sound root tree h t) e

pub delta_numbers_are_fresh : laws.DeltaNumbersAreFresh
delta_numbers_are_fresh s table above branch place act children sound facts at =
    fresh_for_all (number_of table act.first) branch (delta_is_fresh s sound table above branch facts place act children at)

pub closed_tableaux_give_derivations : laws.ClosedTableauxGiveDerivations
closed_tableaux_give_derivations s given root tree sound h is t finished = tableau_derives s sound given root tree h is t finished

-- the formulas of a typed problem are well typed and without parameters
premise_of : (ps : List Premise) (f : Form) → Contains (map (λ p. p.form) ps) f → (p : Premise) × Contains ps p × (p.form ≡ f)
premise_of [] f m = absurd (Contains-none f m)
premise_of (p ∷ ps) f m = elim (Contains-cases p.form (map (λ q. q.form) ps) f m) [
  | inl e ↦ (p, Contains-here p ps, e)
  | inr i ↦ let x = premise_of ps f i in (x.0, Contains-there p ps x.0 x.1, x.2)
]

refuted_form : (problem : Problem) → IsTypedProblem problem → (f : Form) → Contains (refuted problem) f → IsProblemForm problem.symbols f ⊎ ((g : Form) × IsProblemForm problem.symbols g × (Form.negation g ≡ f))
refuted_form problem typed f m = elim (Contains-append_cases (map (λ p. p.form) problem.premises) (Form.negation problem.conjecture ∷ []) f m) [
  | inl i ↦ let x = premise_of problem.premises f i in
      inl (subst (IsProblemForm problem.symbols) x.2 (All-contains (λ p. IsProblemForm problem.symbols p.form) problem.premises x.0 typed.premises x.1))
  | inr i ↦ inr (problem.conjecture, typed.conjecture, only (Form.negation problem.conjecture) f i)
]

pub refuted_given : (problem : Problem) → IsTypedProblem problem → (s : Setting) → s.symbols ≡ problem.symbols → AreGiven s (refuted problem)
refuted_given problem typed s e = record {
  typed = λ f m. subst (λ x. WellTyped x f) (sym e) (elim (refuted_form problem typed f m) [
    | inl i ↦ i.typed
    | inr i ↦ subst (WellTyped problem.symbols) i.2 (WellTyped.negation i.1.typed)
  ]);
  parameters = λ f m. elim (refuted_form problem typed f m) [
    | inl i ↦ i.parameters
    | inr i ↦ let P : Form → Type 0 = HasNoParameter in subst P i.2 i.1.parameters
  ];
}

pub closed_tableaux_prove_problems : laws.ClosedTableauxProveProblems
closed_tableaux_prove_problems problem s root tree typed e r is t finished =
    let sound = sound_without_rules s (subst IsSignature (sym e) typed.signature) r in
    let d = tableau_derives s sound (refuted problem) root tree (refuted_given problem typed s e) is t finished in
    subst (λ x. Derives problem.symbols x (refuted problem)) r (subst (λ x. Derives x s.rules (refuted problem)) e d)

pub offers_are_determined : laws.OffersAreDetermined
offers_are_determined s table above branch offers also sound facts x y = one_offers s sound table above branch facts offers also x y

pub picks_determine_the_tree : laws.PicksDetermineTheTree
picks_determine_the_tree s root run tree also sound h x y = picks_determine s sound root h run tree also x y

pub causes_are_determined : laws.CausesAreDetermined
causes_are_determined s given budget tree why also sound h t x y = one_cause s sound given budget tree why also h t x y

pub open_tableaux_have_a_current_leaf : laws.OpenTableauxHaveACurrentLeaf
open_tableaux_have_a_current_leaf root tree = (
  λ e. unfinished_current tree (enter [] root) root 0 e,
  λ x. go (is_finished tree) refl x.0 x.1,
)
  where
    go : (v : Bool) → is_finished tree ≡ v → (leaf : Leaf) → current_leaf root tree ≡ Some leaf → is_finished tree ≡ false
    go true e leaf h = absurd (let i : None ≡ Some leaf = sym (finished_current tree (enter [] root) root 0 e) ∙ h in cc)
    go false e leaf h = e

pub steps_are_lawful : laws.StepsAreLawful
steps_are_lawful s table branch place kind act children e at = step_lawful s table branch place kind act children e at

pub leaves_may_be_replaced : laws.LeavesMayBeReplaced
leaves_may_be_replaced s root tree node leaf t e z l high =
    let unfinished : is_finished tree ≡ false = (open_tableaux_have_a_current_leaf root tree).1 (leaf, e) in
    record {
      tableau = record {
        lawful = replaced_lawful s tree (enter [] root) root 0 node leaf t.lawful e z l;
        entered = unskipped s tree root node z t.entered;
        high = let h = replaced_height s tree (enter [] root) root 0 node leaf 512 e (let i = t.high in omega arith) high in omega arith;
      };
      picked = replaced_picks s tree (enter [] root) root node t.lawful unfinished;
      counted = replaced_count s tree (enter [] root) root node t.lawful unfinished;
    }

pub replaced_leaves_are_current : laws.ReplacedLeavesAreCurrent
replaced_leaves_are_current s root tree node leaf e z = replaced_current s tree (enter [] root) root 0 node leaf e z

pub quantifier_free_branches_split : laws.QuantifierFreeBranchesSplit
quantifier_free_branches_split s table branch entries q = (
  λ h. raw_splits s table branch entries q h,
  λ e. subst (λ x. AreRawOffers s table branch x) (sym e) (raw_there s table branch q),
)

pub quantifier_free_offers_are_splits : laws.QuantifierFreeOffersAreSplits
quantifier_free_offers_are_splits s table branch offers unruled q h = offers_are s unruled table branch offers q h

pub shallow_splits_are_offers : laws.ShallowSplitsAreOffers
shallow_splits_are_offers s table branch unruled q d = offers_there s unruled table branch q d

pub shallow_splits_have_no_fault : laws.ShallowSplitsHaveNoFault
shallow_splits_have_no_fault s table branch fault unruled q d h = no_fault s unruled table branch fault q d h

pub tableaux_stay_quantifier_free : laws.TableauxStayQuantifierFree
tableaux_stay_quantifier_free s root tree unruled q d t = tableau_free s unruled root tree q d t

pub roots_are_quantifier_free : laws.RootsAreQuantifierFree
roots_are_quantifier_free problem s root typed free unruled is = root_free problem s root typed free unruled is

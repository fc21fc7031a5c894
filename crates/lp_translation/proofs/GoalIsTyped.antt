-- The goal's body has the type of proofs of the conjecture.
use Rattle.std.proofs.Common.{codes, ℕ, suc, ◌≡◌, ◌⊎◌, inl, inr, true, List, [], ◌∷◌, ◌++◌, map, Contains, Some, None, Option, append-nil, ap, sym, subst}
use Rattle.std.proofs.lemmas.List.Elements.{Contains-append_left, Contains-append_right, Contains-append_cases}
use Rattle.lp_terms.specs.Term.{Lp}
use Rattle.lp_terms.specs.Signature.{Entry, Holds, Extends, SignatureHasNoFree}
use Rattle.lp_terms.specs.Signature as sig
use Rattle.lp_terms.specs.Typing.{Context, Class, IsSort, Has}
use Rattle.lp_terms.specs.Typing as ty
use Rattle.lp_terms.specs.WellFormed as wf
use Rattle.lp_terms.proofs.WellFormedSignatures.{well_formed_free}
use Rattle.zm_logic.specs.Tree.{Form, Premise, Problem}
use Rattle.zm_logic.specs.Parameter.{HasNoParameter, Never}
use Rattle.zm_logic.specs.Typing.{WellTyped}
use Rattle.zm_logic.specs.Problem.{IsProblemForm, IsTypedProblem}
use Rattle.zm_logic.proofs.Each.{each}
use Rattle.zm_logic.proofs.Sames.{Contains-here, Contains-there, Contains-cases, Contains-none}
use Rattle.rule_select.specs.Selection.{Selection, IsSelection, kept_of, kept_premises}
use Rattle.rule_select.specs.Laws.{SelectedRulesAreSound, StepsKeepTyping}
use Rattle.lp_signature.specs.Prelude.{prop, prf, not_of, prelude}
use Rattle.lp_signature.specs.Names.{premise_name}
use Rattle.lp_signature.specs.Translation.{Scope, form_of, term_of}
use Rattle.lp_signature.specs.Scoped.{CarriesClosed}
use Rattle.lp_signature.specs.Problem.{signature, premise_entries}
use Rattle.lp_signature.specs.WellFormedLaws.{SignaturesAreWellFormed}
use Rattle.lp_signature.proofs.Logic as logic
use Rattle.lp_signature.proofs.TypedEntries.{after_append}
use Rattle.lp_signature.proofs.Rules as rule
use Rattle.lp_signature.proofs.TypedTrees.{fits_none}
use Rattle.lp_signature.proofs.Signatures.{prelude_held, premises_held, symbols_declared, selected_converts, selected_carries}
use Rattle.sequent_proof.specs.Tree.{DTree, added, IsDerivation}
use Rattle.lp_translation.specs.ProofOf.{Hypotheses, proves}
use Rattle.lp_translation.specs.Goal.{by_premises, goal_sequent, goal_type, goal_body}
use Rattle.lp_translation.specs.Laws.{TypingIsPreserved, GoalFilesAreMade, GoalFilesAreWellFormed}
use Rattle.lp_translation.proofs.HypothesesProve.{Each, each_more, proves_more, proves_older}
use Rattle.lp_translation.proofs.Writings.{HasClosedTypes, Setting, form_typed, unshared}
use Rattle.lp_translation.proofs.Branches.{Branch, ProvesOf, sh, each_of, same_members}
use Rattle.lp_translation.proofs.Children.{add_not}
use Rattle.lp_translation.proofs.Induction.{Normals, derivation_refutes}

-- the premises that are kept are among the premises
pub kept_is_premise : (P : Premise → Type 0) (ps : List Premise) (numbers : List (Option ℕ)) →
    ((q : Premise) → Contains ps q → P q)
    → (q : Premise) → Contains (kept_of ps numbers) q → P q
kept_is_premise P [] numbers all q i = absurd (Contains-none q i)
kept_is_premise P (p ∷ ps) [] all q i = absurd (Contains-none q i)
kept_is_premise P (p ∷ ps) (Some n ∷ numbers) all q i = kept_is_premise P ps numbers
    (λ r j. all r (Contains-there p ps r j)) q i
kept_is_premise P (p ∷ ps) (None ∷ numbers) all q i =
    go (Contains-cases p (kept_of ps numbers) q i) (λ j. kept_is_premise P ps numbers
    (λ r k. all r (Contains-there p ps r k)) q j)
  where
    go : (p ≡ q) ⊎ Contains (kept_of ps numbers) q → (Contains (kept_of ps numbers) q → P q) → P q
    go (inl e) later = subst P e (all p (Contains-here p ps))
    go (inr j) later = later j

abbrev pub forms_of : List Premise → List Form
forms_of ps = map (λ premise. premise.form) ps

form_of_premise : (P : Form → Type 0) (ps : List Premise) → ((q : Premise) → Contains ps q → P q.form) → (f : Form)
    → Contains (forms_of ps) f → P f
form_of_premise P [] all f i = absurd (Contains-none f i)
form_of_premise P (p ∷ ps) all f i =
    go (Contains-cases p.form (forms_of ps) f i) (λ j. form_of_premise P ps (λ q k. all q (Contains-there p ps q k)) f j)
  where
    go : (p.form ≡ f) ⊎ Contains (forms_of ps) f → (Contains (forms_of ps) f → P f) → P f
    go (inl e) later = subst P e (all p (Contains-here p ps))
    go (inr j) later = later j

-- each premise's constant proves it
abbrev pub PremisesHold : (Form → Lp → Type 0) → ℕ → List Premise → Type 0
PremisesHold P k [] = Unit {0}
PremisesHold P k (p ∷ ps) = P p.form (Lp.const (premise_name k)) × PremisesHold P (suc k) ps

each_premise : (P : Form → Lp → Type 0) (k : ℕ) (ps : List Premise) (hs : Hypotheses) → Each P hs → PremisesHold P k ps
    → Each P (by_premises k ps hs)
each_premise P k [] hs e h = e
each_premise P k (p ∷ ps) hs e h =
    each_premise P (suc k) ps (Hypotheses.more (p.form ∷ []) (Lp.const (premise_name k)) hs)
    (each_more P p.form (Lp.const (premise_name k)) hs h.0 e) h.1

older_premises : (k : ℕ) (ps : List Premise) (hs : Hypotheses) (f : Form) → proves hs f ≡ true → proves
    (by_premises k ps hs) f ≡ true
older_premises k [] hs f e = e
older_premises k (p ∷ ps) hs f e =
    older_premises (suc k) ps (Hypotheses.more (p.form ∷ []) (Lp.const (premise_name k)) hs) f
    (proves_older (p.form ∷ []) (Lp.const (premise_name k)) hs f e)

premises_prove : (k : ℕ) (ps : List Premise) (hs : Hypotheses) (f : Form) → Contains (forms_of ps) f → proves
    (by_premises k ps hs) f ≡ true
premises_prove k [] hs f i = absurd (Contains-none f i)
premises_prove k (p ∷ ps) hs f i =
    let one : Hypotheses = Hypotheses.more (p.form ∷ []) (Lp.const (premise_name k)) hs in
    go one (proves_more p.form (Lp.const (premise_name k)) hs) (Contains-cases p.form (forms_of ps) f i)
    (λ j. premises_prove (suc k) ps one f j)
  where
    go : (one : Hypotheses) → proves one p.form ≡ true → (p.form ≡ f) ⊎ Contains (forms_of ps) f
        → (Contains (forms_of ps) f → proves (by_premises (suc k) ps one) f ≡ true) → proves
        (by_premises (suc k) ps one) f ≡ true
    go one here (inl e) later = older_premises (suc k) ps one f (subst (λ g. proves one g ≡ true) e here)
    go one here (inr j) later = later j

premises_hold : (x : Setting) (gamma : List Form) (k : ℕ) (ps : List Premise) → Extends
    (premise_entries x.ss k ps) x.sigma
    → ((f : Form) → Contains (forms_of ps) f → Contains gamma f) → PremisesHold
    (ProvesOf x gamma Context.empty Scope.none) k ps
premises_hold x gamma k [] held within = tt
premises_hold x gamma k (p ∷ ps) held within = (
  (within p.form (Contains-here p.form (forms_of ps)), ty.Has.constant (sig.Declares.declared (held _ sig.Holds.first))),
  premises_hold x gamma (suc k) ps (λ e h. held e (sig.Holds.later h))
      (λ f i. within f (Contains-there p.form (forms_of ps) f i)),
)

-- a formula of a problem has no parameter, so none that carries a type
pub problem_form_carries : (f : Form) → HasNoParameter f → HasClosedTypes f
problem_form_carries f h = each Never CarriesClosed (λ p n. absurd n) f h

module _ (p : Problem) (s : Selection) (good : IsTypedProblem p) (unbound : SignatureHasNoFree (signature p s)) where
  abbrev sigma : List Entry
  sigma = signature p s

  holds : Extends prelude sigma
  holds = prelude_held p s

  -- the problem's signature, with trees written as their translations
  abbrev setting : Setting
  setting =
      record {
        sigma = sigma;
        holds = holds;
        unbound = unbound;
        ss = p.symbols;
        good = good.signature;
        declared = symbols_declared p s good;
        write = form_of p.symbols;
        write_term = term_of p.symbols;
        writing = unshared sigma holds p.symbols good.signature (symbols_declared p s good);
      }

  premise_is : (q : Premise) → Contains (kept_premises p s) q → IsProblemForm p.symbols q.form
  premise_is q i = kept_is_premise (λ r. IsProblemForm p.symbols r.form) p.premises s.rule_of
      (λ r j. each_of (λ v. IsProblemForm p.symbols v.form) p.premises good.premises r j) q i

  abbrev premises : List Form
  premises = forms_of (kept_premises p s)

  start : Branch setting premises 0 Context.empty Scope.none (by_premises 0 (kept_premises p s) Hypotheses.none)
  start = record {
    above = λ n le. tt;
    fits = fits_none sigma holds p.symbols good.signature (symbols_declared p s good) Context.empty;
    forms = form_of_premise (WellTyped p.symbols) (kept_premises p s) (λ q i. (premise_is q i).typed);
    carries = form_of_premise HasClosedTypes (kept_premises p s)
        (λ q i. problem_form_carries q.form (premise_is q i).parameters);
    proved = each_premise (ProvesOf setting premises Context.empty Scope.none) 0 (kept_premises p s) Hypotheses.none tt
        (premises_hold setting premises 0 (kept_premises p s) (premises_held p s) (λ f i. i));
    covers = λ f i. premises_prove 0 (kept_premises p s) Hypotheses.none f i;
    scoped = λ n new. tt;
  }

  conjecture_carries : HasClosedTypes p.conjecture
  conjecture_carries = problem_form_carries p.conjecture good.conjecture.parameters

  last_first : (f : Form) → Contains (Form.negation p.conjecture ∷ premises) f → Contains (goal_sequent p s ++ []) f
  last_first f i = go (Contains-cases (Form.negation p.conjecture) premises f i)
    where
      front : Contains (goal_sequent p s) f → Contains (goal_sequent p s ++ []) f
      front j = Contains-append_left (goal_sequent p s) [] f j

      go : (Form.negation p.conjecture ≡ f) ⊎ Contains premises f → Contains (goal_sequent p s ++ []) f
      go (inl e) = front (Contains-append_right premises (Form.negation p.conjecture ∷ []) f
          (subst (Contains (Form.negation p.conjecture ∷ [])) e (Contains-here (Form.negation p.conjecture) [])))
      go (inr j) = front (Contains-append_left premises (Form.negation p.conjecture ∷ []) f j)

  first_last : (f : Form) → Contains (goal_sequent p s ++ []) f → Contains (Form.negation p.conjecture ∷ premises) f
  first_last f i = whole (Contains-append_cases (goal_sequent p s) [] f i)
    where
      last : (Form.negation p.conjecture ≡ f) ⊎ Contains [] f → Contains (Form.negation p.conjecture ∷ premises) f
      last (inl e) = subst (Contains (Form.negation p.conjecture ∷ premises)) e
          (Contains-here (Form.negation p.conjecture) premises)
      last (inr j) = absurd (Contains-none f j)

      go : Contains premises f ⊎ Contains (Form.negation p.conjecture ∷ []) f → Contains
          (Form.negation p.conjecture ∷ premises) f
      go (inl j) = Contains-there (Form.negation p.conjecture) premises f j
      go (inr j) = last (Contains-cases (Form.negation p.conjecture) [] f j)

      whole : Contains (goal_sequent p s) f ⊎ Contains [] f → Contains (Form.negation p.conjecture ∷ premises) f
      whole (inl j) = go (Contains-append_cases premises (Form.negation p.conjecture ∷ []) f j)
      whole (inr j) = absurd (Contains-none f j)

  -- the derivation's sequent, where the variable 0 proves the negated conjecture
  root : (gs : List Form) → gs ≡ goal_sequent p s
      → Branch setting (gs ++ []) 1 (Context.bind 0 (prf
      (not_of (form_of p.symbols Scope.none p.conjecture))) Context.empty) Scope.none
      (Hypotheses.more (Form.negation p.conjecture ∷ []) (Lp.free 0) (by_premises 0 (kept_premises p s) Hypotheses.none))
  root gs e =
      subst (λ fs. Branch setting (fs ++ []) 1 (Context.bind 0
      (prf (not_of (form_of p.symbols Scope.none p.conjecture))) Context.empty) Scope.none
      (Hypotheses.more (Form.negation p.conjecture ∷ []) (Lp.free 0) (by_premises 0 (kept_premises p s) Hypotheses.none)))
      (sym e) (same_members setting last_first first_last
      (add_not setting p.conjecture good.conjecture.typed conjecture_carries start))

  -- the goal's type is one
  pub goal_type_has : Has sigma Context.empty (goal_type p) (Class.of Lp.sort)
  goal_type_has =
      logic.prf_type sigma (sh setting)
      (form_typed setting start.fits good.conjecture.typed)

  module _ (normals : Normals sigma p.symbols s.rules) where
    -- the goal's body has the goal's type
    pub body_typed : (t : DTree) → IsDerivation p.symbols s.rules [] t → added t ≡ goal_sequent p s
        → Has sigma Context.empty (goal_body p s t) (Class.of (goal_type p))
    body_typed t h e =
        let hc : Has sigma Context.empty (form_of p.symbols Scope.none p.conjecture) (Class.of prop) =
        form_typed setting start.fits good.conjecture.typed in
        rule.nn_typed sigma holds unbound 0 (λ n le. tt) hc
        (derivation_refutes setting s.rules normals t [] h 1
        (Context.bind 0 (prf (not_of (form_of p.symbols Scope.none p.conjecture))) Context.empty) Scope.none
        (Hypotheses.more (Form.negation p.conjecture ∷ []) (Lp.free 0)
        (by_premises 0 (kept_premises p s) Hypotheses.none)) (root (added t) e))

-- the rules of a selection
selected : SelectedRulesAreSound → StepsKeepTyping → (p : Problem) (s : Selection) → IsTypedProblem p → IsSelection p s
    → Normals (signature p s) p.symbols s.rules
selected sound keep p s good selects = record {
  converts = λ scope f g c h. selected_converts p s good selects sound scope c h;
  carried = λ f g n w h e. selected_carries p s good selects sound keep h w e;
}

module _ (sound : SelectedRulesAreSound) (keep : StepsKeepTyping) (well_formed : SignaturesAreWellFormed) where
  pub typing_is_preserved : TypingIsPreserved
  typing_is_preserved p s t good selects h e =
      body_typed p s good (well_formed_free (signature p s) (well_formed p s good selects))
      (selected sound keep p s good selects) t h e

  pub goal_files_are_made : GoalFilesAreMade
  goal_files_are_made p s t good selects h e = record {
    definitions = [];
    body = goal_body p s t;
    entries = ap (λ es. es ++ (Entry.define (codes "goal") (goal_type p) (goal_body p s t) ∷ []))
        (sym (append-nil (signature p s)));
    well_formed = tt;
    typed = subst (λ es. Has es Context.empty (goal_body p s t) (Class.of (goal_type p)))
        (sym (append-nil (signature p s)))
        (typing_is_preserved p s t good selects h e);
  }

  -- the goal's entry is well formed after the signature
  pub goal_files_are_well_formed : GoalFilesAreWellFormed
  goal_files_are_well_formed p s t good selects h e =
      let free : SignatureHasNoFree (signature p s) = well_formed_free (signature p s) (well_formed p s good selects) in
      after_append [] (signature p s) (Entry.define (codes "goal") (goal_type p) (goal_body p s t) ∷ [])
      (well_formed p s good selects) (
        wf.IsWellFormedEntry.define (goal_type_has p s good free) ty.IsSort.is_type
            (typing_is_preserved p s t good selects h e),
        tt,
      )

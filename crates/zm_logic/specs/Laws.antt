-- What the definitions promise of one another. Each statement is the contract of a function of the module laws.
use Rattle.std.specs.Prelude.{ℕ, codes, ◌≡◌, ◌↔◌, Bool, true, false, not, List, [], ◌∷◌, All}
use Rattle.std.specs.List.{Contains}
use Rattle.zm_logic.specs.Tree.{Ty, Tys, Term, Terms, Form, Problem, Side, Rule, Symbol, Sense, Quantifier, both, implies, iff, for_all, exists, for_all_types, exists_types}
use Rattle.zm_logic.specs.Opening.{at_term, at_type, close}
use Rattle.zm_logic.specs.Parameter.{EachInTerm, EachIn, Never, IsFresh}
use Rattle.zm_logic.specs.Index.{IsClosed}
use Rattle.zm_logic.specs.Typing.{IsType, HasType, WellTyped, IsSignature, individual}
use Rattle.zm_logic.specs.Rewriting.{Step, Congruent}
use Rattle.zm_logic.specs.Innermost.{IsNormal, InnermostStep, Innermost}
use Rattle.zm_logic.specs.Calculus.{Derives}
use Rattle.zm_logic.specs.Same.{same_type, same_term, same, has}
use Rattle.zm_logic.specs.Truth.{Valued, IsQuantifierFree, IsTrueUnder, Falsifies, refuted, connected}

-- the test of sameness decides equality of types, of terms and of formulas
abbrev pub SameTypesAreEqual : Type 0
SameTypesAreEqual = (t u : Ty) → (same_type t u ≡ true) ↔ (t ≡ u)

abbrev pub SameTermsAreEqual : Type 0
SameTermsAreEqual = (a b : Term) → (same_term a b ≡ true) ↔ (a ≡ b)

abbrev pub SameFormsAreEqual : Type 0
SameFormsAreEqual = (f g : Form) → (same f g ≡ true) ↔ (f ≡ g)

-- the test of membership decides whether a list of formulas contains a formula
abbrev pub HasIsMembership : Type 0
HasIsMembership = (fs : List Form) (f : Form) → (has fs f ≡ true) ↔ Contains fs f

-- closing on a number that is fresh for the body undoes opening the body at an epsilon term of that number
abbrev pub ClosingUndoesOpeningAtTerm : Type 0
ClosingUndoesOpeningAtTerm = (f : Form) (n : ℕ) (t : Ty) → IsFresh n f → close (at_term f (Term.eps n t)) n ≡ f

-- and at the type parameter of that number
abbrev pub ClosingUndoesOpeningAtType : Type 0
ClosingUndoesOpeningAtType = (f : Form) (n : ℕ) → IsFresh n f → close (at_type f (Ty.param n)) n ≡ f

-- over a signature, the body of a well typed quantified formula is well typed at each term of the binder's type
abbrev pub InstancesAreWellTyped : Type 0
InstancesAreWellTyped =
    (symbols : List Symbol) (q : Quantifier) (t : Ty) (f : Form) (u : Term) → IsSignature symbols
    → WellTyped symbols (Form.quantified q t f) → HasType symbols u t → WellTyped symbols (at_term f u)

-- and the body of a formula that is quantified over types, at each type
abbrev pub TypeInstancesAreWellTyped : Type 0
TypeInstancesAreWellTyped =
    (symbols : List Symbol) (q : Quantifier) (f : Form) (t : Ty) → IsSignature symbols
    → WellTyped symbols (Form.quantified_types q f) → IsType symbols 0 t → WellTyped symbols (at_type f t)

-- a well typed formula has no loose index
abbrev pub WellTypedFormsAreClosed : Type 0
WellTypedFormsAreClosed = (symbols : List Symbol) (f : Form) → WellTyped symbols f → IsClosed 0 f

-- no parameter occurs in the side of a rule
abbrev pub HasNoParameterIn : Side → Type 0
HasNoParameterIn (Side.of_term a) = EachInTerm Never a
HasNoParameterIn (Side.of_form f) = EachIn Never f

-- no parameter occurs in the rules
abbrev pub AreWithoutParameters : List Rule → Type 0
AreWithoutParameters rules = (r : Rule) → Contains rules r → HasNoParameterIn r.left × HasNoParameterIn r.right

-- weakening: what is refuted stays refuted with more formulas
abbrev pub WeakeningIsAdmissible : Type 0
WeakeningIsAdmissible =
    (symbols : List Symbol) (rules : List Rule) (gamma delta : List Form) → IsSignature symbols → AreWithoutParameters rules
    → ((f : Form) → Contains gamma f → Contains delta f) → Derives symbols rules gamma → Derives symbols rules delta

-- a formula and its negation are refuted together, with whatever else
abbrev pub ContradictionsAreRefuted : Type 0
ContradictionsAreRefuted =
    (symbols : List Symbol) (rules : List Rule) (f : Form) (gamma : List Form)
    → Derives symbols rules (f ∷ Form.negation f ∷ gamma)

-- Peirce's formula  ((a => b) => a) => a  is derived
abbrev pub PeirceIsDerived : Type 0
PeirceIsDerived =
    (symbols : List Symbol) (rules : List Rule) (a b : Form)
    → Derives symbols rules (Form.negation (implies (implies (implies a b) a) a) ∷ [])

-- the drinker's formula  ? [X] : (r(X) => ! [Y] : r(Y)),  for a predicate r of one individual
abbrev pub drinker : ℕ → Form
drinker r =
    exists individual
    (implies (Form.atom r Tys.none (Terms.more (Term.bound 0) Terms.none))
    (for_all individual (Form.atom r Tys.none (Terms.more (Term.bound 0) Terms.none))))

-- the drinker's formula is derived
abbrev pub DrinkerIsDerived : Type 0
DrinkerIsDerived =
    (symbols : List Symbol) (rules : List Rule) (r : ℕ) → Derives symbols rules (Form.negation (drinker r) ∷ [])

-- the drinker's formula over types  ? [A: $tType] : (r(A) => ! [B: $tType] : r(B)),  for a predicate r of one type
abbrev pub drinker_over_types : ℕ → Form
drinker_over_types r =
    exists_types
    (implies (Form.atom r (Tys.more (Ty.bound 0) Tys.none) Terms.none)
    (for_all_types (Form.atom r (Tys.more (Ty.bound 0) Tys.none) Terms.none)))

-- the drinker's formula over types is derived
abbrev pub DrinkerOverTypesIsDerived : Type 0
DrinkerOverTypesIsDerived =
    (symbols : List Symbol) (rules : List Rule) (r : ℕ) → Derives symbols rules (Form.negation (drinker_over_types r) ∷ [])

-- the two quantifiers over types are dual:  ? [A: $tType] : f <=> ~ ! [A: $tType] : ~f  is derived
abbrev pub TypeQuantifiersAreDual : Type 0
TypeQuantifiersAreDual =
    (symbols : List Symbol) (rules : List Rule) (f : Form)
    → Derives symbols rules (Form.negation (iff (exists_types f) (Form.negation (for_all_types (Form.negation f)))) ∷ [])

-- equality is symmetric: a = b => b = a  is derived
abbrev pub SymmetryIsDerived : Type 0
SymmetryIsDerived =
    (symbols : List Symbol) (rules : List Rule) (t : Ty) (a b : Term)
    → Derives symbols rules (Form.negation (implies (Form.equal t a b) (Form.equal t b a)) ∷ [])

-- equality is transitive: a = b & b = c => a = c  is derived
abbrev pub TransitivityIsDerived : Type 0
TransitivityIsDerived =
    (symbols : List Symbol) (rules : List Rule) (t : Ty) (a b c : Term)
    → Derives symbols rules (Form.negation (implies (both (Form.equal t a b) (Form.equal t b c)) (Form.equal t a c)) ∷ [])

-- with no rules a formula is congruent to itself alone
abbrev pub CongruenceWithoutRulesIsEquality : Type 0
CongruenceWithoutRulesIsEquality = (symbols : List Symbol) (f g : Form) → Congruent symbols [] f g → f ≡ g

-- soundness for truth tables: formulas with no quantifier and no equality that are refuted with no rules are not all
-- true under any valuation
abbrev pub RefutedFormsAreNotAllTrue : Type 0
RefutedFormsAreNotAllTrue =
    (symbols : List Symbol) (gamma : List Form) (v : List Valued) → All IsQuantifierFree gamma
    → Derives symbols [] gamma → All (IsTrueUnder v) gamma → ⊥

-- a formula with no quantifier
abbrev pub HasNoQuantifier : Form → Type 0
HasNoQuantifier Form.truth = Unit {0}
HasNoQuantifier Form.falsity = Unit {0}
HasNoQuantifier (Form.atom p ts us) = Unit {0}
HasNoQuantifier (Form.equal t a b) = Unit {0}
HasNoQuantifier (Form.negation f) = HasNoQuantifier f
HasNoQuantifier (Form.binary c f g) = HasNoQuantifier f × HasNoQuantifier g
HasNoQuantifier (Form.quantified q t f) = ⊥
HasNoQuantifier (Form.quantified_types q f) = ⊥

-- its truth table over the truth of its atoms, where each term stands for itself: two terms are equal where they are the
-- same tree
abbrev pub truth_in_terms : (Form → Bool) → Form → Bool
truth_in_terms v Form.truth = true
truth_in_terms v Form.falsity = false
truth_in_terms v (Form.atom p ts us) = v (Form.atom p ts us)
truth_in_terms v (Form.equal t a b) = same_term a b
truth_in_terms v (Form.negation f) = not (truth_in_terms v f)
truth_in_terms v (Form.binary c f g) = connected c (truth_in_terms v f) (truth_in_terms v g)
truth_in_terms v (Form.quantified q t f) = false
truth_in_terms v (Form.quantified_types q f) = false

-- the same with equality: formulas with no quantifier that are refuted with no rules are not all true of the terms themselves
abbrev pub RefutedFormsAreNotAllTrueInTerms : Type 0
RefutedFormsAreNotAllTrueInTerms =
    (symbols : List Symbol) (gamma : List Form) (v : Form → Bool) → All HasNoQuantifier gamma
    → Derives symbols [] gamma → All (λ f. truth_in_terms v f ≡ true) gamma → ⊥

-- so no problem without quantifiers and equality is both falsified by a valuation and proved with no rules
abbrev pub FalsifiedProblemsAreNotRefuted : Type 0
FalsifiedProblemsAreNotRefuted =
    (problem : Problem) (v : List Valued) → All IsQuantifierFree (refuted problem)
    → Falsifies v problem → Derives problem.symbols [] (refuted problem) → ⊥

-- consistency: the empty sequent has no derivation, and an atom alone has none
abbrev pub NothingIsNotRefuted : Type 0
NothingIsNotRefuted = (symbols : List Symbol) → Derives symbols [] [] → ⊥

abbrev pub AtomsAreNotRefuted : Type 0
AtomsAreNotRefuted = (symbols : List Symbol) (p : ℕ) (ts : Tys) (us : Terms) → Derives symbols [] (Form.atom p ts us ∷ []) → ⊥

-- congruence is an equivalence of well typed formulas
abbrev pub CongruenceIsSymmetric : Type 0
CongruenceIsSymmetric =
    (symbols : List Symbol) (rules : List Rule) (f g : Form) → Congruent symbols rules f g → Congruent symbols rules g f

abbrev pub CongruenceIsTransitive : Type 0
CongruenceIsTransitive =
    (symbols : List Symbol) (rules : List Rule) (f g h : Form)
    → Congruent symbols rules f g → Congruent symbols rules g h → Congruent symbols rules f h

-- a leftmost innermost step is a step
abbrev pub InnermostStepsAreSteps : Type 0
InnermostStepsAreSteps = (rules : List Rule) (f g : Form) → InnermostStep rules f g → Step rules f g

-- what innermost steps end in has no step
abbrev pub InnermostEndsInNormalForms : Type 0
InnermostEndsInNormalForms = (rules : List Rule) (f : Form) (n : ℕ) (g : Form) → Innermost rules f n g → IsNormal rules g

-- a worked example: two predicates with no arguments, and the rule  p --> q
abbrev pub proposition : Symbol
proposition = record { name = codes "p"; types = 0; arguments = Tys.none; sense = Sense.predicate }

abbrev pub p_and_q : List Symbol
p_and_q = proposition ∷ record proposition { name = codes "q" } ∷ []

abbrev pub p : Form
p = Form.atom 1 Tys.none Terms.none

abbrev pub q : Form
q = Form.atom 2 Tys.none Terms.none

abbrev pub p_to_q : List Rule
p_to_q = record { binders = []; left = Side.of_form p; right = Side.of_form q } ∷ []

-- by this rule  ~p  and  ~q  are congruent, and  p  is refuted together with  ~q
abbrev pub RulesMakeCongruent : Type 0
RulesMakeCongruent = Congruent p_and_q p_to_q (Form.negation p) (Form.negation q)

abbrev pub RulesRefute : Type 0
RulesRefute = Derives p_and_q p_to_q (p ∷ Form.negation q ∷ [])

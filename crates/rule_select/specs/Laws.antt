-- What selections promise. Each statement is the contract of a function of the module laws.
use Rattle.std.specs.Prelude.{ℕ, ◌+◌, ◌≡◌, Some, None, length, map, slice_get}
use Rattle.std.specs.List.{Contains}
use Rattle.zm_logic.specs.Tree.{Form, Rule, Premise, Problem}
use Rattle.zm_logic.specs.Typing.{WellTyped}
use Rattle.zm_logic.specs.Problem.{IsTypedProblem}
use Rattle.zm_logic.specs.Rewriting.{Step, Congruent}
use Rattle.zm_logic.specs.Laws.{AreWithoutParameters}
use Rattle.rule_select.specs.Lawful.{IsRule, IsKept}
use Rattle.rule_select.specs.Selection.{Selection, Selects, KeepsAll, IsSelection, kept_numbers, kept_premises}
use Rattle.rule_select.specs.Sound.{IsSound}

-- a problem has no two selections with rules
abbrev pub SelectionIsDetermined : Type 0
SelectionIsDetermined = (p : Problem) (s t : Selection) → Selects p s → Selects p t → s ≡ t

-- no problem is without one
abbrev pub NoProblemLacksASelection : Type 0
NoProblemLacksASelection = (p : Problem) → ((s : Selection) → Selects p s → ⊥) → ⊥

-- the number of a premise's rule is that of a rule which the premise is
abbrev pub NumbersNameRules : Type 0
NumbersNameRules =
    (p : Problem) (s : Selection) (i k : ℕ) (premise : Premise) → Selects p s → slice_get p.premises i ≡ Some premise
    → slice_get s.rule_of i ≡ Some (Some k) → (r : Rule) × (slice_get s.rules k ≡ Some r) × IsRule premise r

-- and a premise without a number is no rule
abbrev pub KeptPremisesAreNoRules : Type 0
KeptPremisesAreNoRules =
    (p : Problem) (s : Selection) (i : ℕ) (premise : Premise) → Selects p s → slice_get p.premises i ≡ Some premise
    → slice_get s.rule_of i ≡ Some None → IsKept premise

-- each premise is a rule or kept
abbrev pub EachPremiseIsRuleOrKept : Type 0
EachPremiseIsRuleOrKept =
    (p : Problem) (s : Selection) → IsSelection p s
    → (length s.rule_of ≡ length p.premises) × (length s.rules + length (kept_premises p s) ≡ length p.premises)

-- the kept numbers are those of the kept premises
abbrev pub KeptNumbersNameKeptPremises : Type 0
KeptNumbersNameKeptPremises =
    (p : Problem) (s : Selection) → IsSelection p s
    → map (λ i. slice_get p.premises i) (kept_numbers s) ≡ map (λ premise. Some premise) (kept_premises p s)

-- where every premise is kept, the kept premises are the premises
abbrev pub KeepingAllKeepsThePremises : Type 0
KeepingAllKeepsThePremises = (p : Problem) (s : Selection) → KeepsAll p s → kept_premises p s ≡ p.premises

-- each rule of a selection of a typed problem is sound
abbrev pub SelectedRulesAreSound : Type 0
SelectedRulesAreSound =
    (p : Problem) (s : Selection) (r : Rule) → IsTypedProblem p → IsSelection p s → Contains s.rules r → IsSound p.symbols r

-- no parameter occurs in the rules of a selection of a typed problem
abbrev pub SelectedRulesHaveNoParameter : Type 0
SelectedRulesHaveNoParameter = (p : Problem) (s : Selection) → IsTypedProblem p → IsSelection p s → AreWithoutParameters s.rules

-- a step by the rules of a selection of a typed problem leads from well typed formulas to well typed formulas, and to a
-- congruent one
abbrev pub StepsKeepTyping : Type 0
StepsKeepTyping =
    (p : Problem) (s : Selection) (f g : Form) → IsTypedProblem p → IsSelection p s → WellTyped p.symbols f
    → Step s.rules f g → WellTyped p.symbols g × Congruent p.symbols s.rules f g

-- What normal forms promise. Each statement is the contract of a function of the module laws.
use Rattle.std.specs.Prelude.{ℕ, ◌≡◌, ◌≤◌, ◌↔◌, Some, None, List}
use Rattle.zm_logic.specs.Tree.{Form, Rule, Symbol, Problem}
use Rattle.zm_logic.specs.Measure.{depth}
use Rattle.zm_logic.specs.Typing.{WellTyped}
use Rattle.zm_logic.specs.Problem.{IsTypedProblem}
use Rattle.zm_logic.specs.Innermost.{IsNormal, InnermostStep}
use Rattle.term_store.specs.Trees.{Tables, Extends}
use Rattle.rule_select.specs.Selection.{Selection, IsSelection}
use Rattle.rule_index.specs.Usable.{AreUsable}
use Rattle.normaliser.specs.NextStep.{next_step}
use Rattle.normaliser.specs.NormalForm.{Answer, normal_form}
use Rattle.normaliser.specs.Evaluate.{by_parts}
use Rattle.normaliser.specs.Meaning.{KeepsTyping, Meets}
use Rattle.normaliser.specs.Kept.{Knows}
use Rattle.normaliser.specs.declared.keeping.Normaliser.{Normaliser}

-- the next step of a well typed formula is the leftmost innermost one
abbrev pub NextStepIsInnermost : Type 0
NextStepIsInnermost =
    (symbols : List Symbol) (rules : List Rule) (f g : Form) → AreUsable rules → WellTyped symbols f
    → (next_step rules f ≡ Some g) ↔ InnermostStep rules f g

-- and it has none exactly where it is normal
abbrev pub NoNextStepWhereNormal : Type 0
NoNextStepWhereNormal =
    (symbols : List Symbol) (rules : List Rule) (f : Form) → AreUsable rules → WellTyped symbols f
    → (next_step rules f ≡ None) ↔ IsNormal rules f

-- a well typed formula has one leftmost innermost step at most
abbrev pub InnermostStepIsDetermined : Type 0
InnermostStepIsDetermined =
    (symbols : List Symbol) (rules : List Rule) (f g h : Form) → AreUsable rules → WellTyped symbols f
    → InnermostStep rules f g → InnermostStep rules f h → g ≡ h

-- the answer step by step is the one that the relation of steps has, and the only one
abbrev pub NormalFormMeetsTheSteps : Type 0
NormalFormMeetsTheSteps =
    (symbols : List Symbol) (rules : List Rule) (limit : ℕ) (f : Form) (a : Answer Form) → AreUsable rules
    → KeepsTyping symbols rules → WellTyped symbols f → depth f ≤ 2000
    → Meets rules limit f a ↔ (a ≡ normal_form rules limit f)

-- part by part, the parts before the whole, the answer is the same
abbrev pub PartsFirstAgrees : Type 0
PartsFirstAgrees = (rules : List Rule) (limit : ℕ) (f : Form) → depth f ≤ 2000 → by_parts rules limit f ≡ normal_form rules limit f

-- all this holds of the rules of a selection of a typed problem
abbrev pub SelectedRulesKeepTyping : Type 0
SelectedRulesKeepTyping =
    (p : Problem) (s : Selection) → IsTypedProblem p → IsSelection p s → AreUsable s.rules × KeepsTyping p.symbols s.rules

-- what a normaliser keeps stays right while the store grows
abbrev pub KeptFormsStay : Type 0
KeptFormsStay = (s t : Tables) (n : Normaliser) → Extends s t → Knows s n → Knows t n

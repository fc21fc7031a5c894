-- What matching promises. Each statement is the contract of a function of the module laws.
use Rattle.std.specs.Prelude.{◌≡◌, ◌↔◌, Some, None, List}
use Rattle.zm_logic.specs.Tree.{Binder, Opening, Side, Rule, Problem}
use Rattle.zm_logic.specs.Opening.{side_instance}
use Rattle.zm_logic.specs.Problem.{IsTypedProblem}
use Rattle.zm_logic.specs.Rewriting.{Fit, Rewrites}
use Rattle.zm_logic.specs.Innermost.{FirstRewrites}
use Rattle.rule_select.specs.Selection.{Selection, IsSelection}
use Rattle.rule_select.specs.Sound.{IsClosedSide}
use Rattle.rule_index.specs.Matching.{Fitting, match_side, rewrite, first_rewrite, first_match}
use Rattle.rule_index.specs.Usable.{IsLeft, IsUsable, AreUsable}
use Rattle.rule_index.specs.Fits.{IsMatch, FirstFits, NoneFits}

-- matching finds the parts at which a left side is x, and finds some wherever there are some
abbrev pub MatchingFindsTheParts : Type 0
MatchingFindsTheParts =
    (bs : List Binder) (left x : Side) (os : List Opening) → IsLeft bs left
    → (match_side bs left x ≡ Some os) ↔ IsMatch bs left x os

-- a left side is x at one list of parts at most
abbrev pub PartsAreDetermined : Type 0
PartsAreDetermined =
    (bs : List Binder) (left x : Side) (os ps : List Opening) → IsLeft bs left
    → IsMatch bs left x os → IsMatch bs left x ps → os ≡ ps

-- the first match is that of the least rule that fits, and there is none exactly where no rule fits
abbrev pub FirstMatchIsTheLeast : Type 0
FirstMatchIsTheLeast =
    (rules : List Rule) (x : Side) (m : Fitting) → AreUsable rules
    → (first_match rules x ≡ Some m) ↔ FirstFits rules x m.rule m.parts

abbrev pub NoMatchWhereNoneFits : Type 0
NoMatchWhereNoneFits = (rules : List Rule) (x : Side) → AreUsable rules → (first_match rules x ≡ None) ↔ NoneFits rules x

-- of a place without loose indices, the parts are without, and the left side at them is the rule's instance
abbrev pub MatchesAreInstances : Type 0
MatchesAreInstances =
    (r : Rule) (x : Side) (os : List Opening) → IsUsable r → IsClosedSide 0 x
    → IsMatch r.binders r.left x os ↔ (Fit os r.binders × (side_instance os r.left ≡ x))

-- and a rule makes of it what rewriting by the rule makes, the first that fits what the first rule with this redex makes
abbrev pub MatchingRewrites : Type 0
MatchingRewrites = (r : Rule) (x y : Side) → IsUsable r → IsClosedSide 0 x → (rewrite r x ≡ Some y) ↔ Rewrites r x y

abbrev pub FirstMatchRewrites : Type 0
FirstMatchRewrites =
    (rules : List Rule) (x y : Side) → AreUsable rules → IsClosedSide 0 x → (first_rewrite rules x ≡ Some y) ↔ FirstRewrites rules x y

-- the rules of a selection of a typed problem are usable
abbrev pub SelectedRulesAreUsable : Type 0
SelectedRulesAreUsable = (p : Problem) (s : Selection) → IsTypedProblem p → IsSelection p s → AreUsable s.rules

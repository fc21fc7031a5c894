-- The rules of the sequent calculus that the Steps and the Closed leaves of a tableau are.
use Rattle.std.specs.Prelude.{Bool, cond, is_some}
use Rattle.zm_logic.specs.Tree.{Form, Connective, Quantifier}
use Rattle.param_store.specs.RawOffers.{Act}
use Rattle.branch.specs.Branch.{Closing}
use Rattle.sequent_proof.specs.Rules.{RuleName}

-- The rule of a formula whose negation is acted on first.
abbrev pub denial_rule : Form → RuleName
denial_rule (Form.negation a) = RuleName.not_not
denial_rule (Form.binary Connective.conjunction a b) = RuleName.not_and
denial_rule (Form.binary Connective.disjunction a b) = RuleName.not_or
denial_rule (Form.binary Connective.implication a b) = RuleName.not_implies
denial_rule (Form.binary Connective.equivalence a b) = RuleName.not_iff
denial_rule (Form.quantified Quantifier.universal t a) = RuleName.not_for_all
denial_rule (Form.quantified Quantifier.existential t a) = RuleName.not_exists
denial_rule (Form.quantified_types Quantifier.universal a) = RuleName.not_for_all
denial_rule (Form.quantified_types Quantifier.existential a) = RuleName.not_exists
denial_rule (Form.equal t a b) = RuleName.equal_values
denial_rule _ = RuleName.falsity

-- The rule of a formula that is acted on first. An equality and an inequation have two offers, of which this may be the
-- other one. No Step acts first on $true or $false, nor on the negation of an atom, of $true or of $false.
abbrev pub rule_on : Bool → Form → RuleName
rule_on other (Form.negation a) = denial_rule a
rule_on other (Form.binary Connective.conjunction a b) = RuleName.conjunction
rule_on other (Form.binary Connective.disjunction a b) = RuleName.disjunction
rule_on other (Form.binary Connective.implication a b) = RuleName.implication
rule_on other (Form.binary Connective.equivalence a b) = RuleName.equivalence
rule_on other (Form.quantified Quantifier.existential t a) = RuleName.existential
rule_on other (Form.quantified Quantifier.universal t a) = RuleName.universal
rule_on other (Form.quantified_types Quantifier.existential a) = RuleName.existential
rule_on other (Form.quantified_types Quantifier.universal a) = RuleName.universal
rule_on other (Form.atom p ts us) = RuleName.equal_arguments
rule_on other (Form.equal t a b) = cond other RuleName.transitive_second RuleName.transitive_first
rule_on other _ = RuleName.falsity

abbrev pub step_rule : Act → RuleName
step_rule a = rule_on a.other a.first

-- the rule of a formula that closes a branch alone: $false, ~$true or ~(t = t)
abbrev pub alone_rule : Form → RuleName
alone_rule Form.falsity = RuleName.falsity
alone_rule (Form.negation Form.truth) = RuleName.not_truth
alone_rule _ = RuleName.reflexive

-- the rule of what closes a branch
abbrev pub closing_rule : Closing → RuleName
closing_rule c = cond (is_some c.second) (cond c.swapped RuleName.symmetric RuleName.closes) (alone_rule c.first)

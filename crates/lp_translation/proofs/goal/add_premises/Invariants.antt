use Rattle.std.proofs.Common.{◌≡◌, take, map}
use Rattle.zm_logic.specs.View.{form_tree}
use Rattle.lp_translation.specs.View.{hypotheses_of}
use Rattle.lp_translation.specs.ViewGoal.{by_forms}
use Rattle.lp_translation.proofs.goal.add_premises.Given as goal

-- the constants so far prove the formulas so far
abbrev pub invariant-loop-number : goal.invariant-loop-number
invariant-loop-number l = hypotheses_of l.facts.items ≡ by_forms 0 (map form_tree (take l.number l.forms)) (hypotheses_of l.initial.facts.items)

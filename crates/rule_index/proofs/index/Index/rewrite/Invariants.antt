use Rattle.std.proofs.Common.{◌≡◌, drop}
use Rattle.zm_logic.specs.View.{side_tree}
use Rattle.rule_index.specs.Matching as matching
use Rattle.rule_index.proofs.Rewritten.{rules_tree}
use Rattle.rule_index.proofs.index.Index.rewrite.Given as goal

abbrev pub invariant-loop-rule : goal.invariant-loop-rule
invariant-loop-rule l =
    matching.first_rewrite (rules_tree (drop l.rule-index l.rule-items)) (side_tree l.place)
    ≡ matching.first_rewrite (rules_tree l.rule-items) (side_tree l.place)

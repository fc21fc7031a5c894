use Rattle.std.proofs.Common.{◌≡◌, drop}
use Rattle.zm_logic.specs.View.{side_tree}
use Rattle.rule_index.specs.Matching as matching
use Rattle.rule_index.proofs.Rewritten.{rules_tree, counted_from}
use Rattle.rule_index.proofs.index.Index.first_fit.Given as goal

abbrev pub invariant-loop-number : goal.invariant-loop-number
invariant-loop-number l =
    counted_from l.number (matching.first_match (rules_tree (drop l.number l.self.rules)) (side_tree l.place))
    ≡ matching.first_match (rules_tree l.self.rules) (side_tree l.place)

use Rattle.std.proofs.Common.{◌≡◌, drop}
use Rattle.zm_logic.specs.View.{types_tree}
use Rattle.rule_index.specs.Matching as matching
use Rattle.rule_index.proofs.finding.+find_in_type.Given as goal

-- what is found is found from here on
abbrev pub invariant-find_in_types-loop-i : goal.invariant-find_in_types-loop-i
invariant-find_in_types-loop-i l =
    matching.find_in_types l.under l.index (types_tree (drop l.i l.types)) (types_tree (drop l.i l.places))
    ≡ matching.find_in_types l.under l.index (types_tree l.types) (types_tree l.places)

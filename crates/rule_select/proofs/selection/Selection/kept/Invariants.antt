use Rattle.std.proofs.Common.{◌≡◌, take}
use Rattle.rule_select.specs.Selection.{kept_from}
use Rattle.rule_select.proofs.selection.Selection.kept.Given as goal

abbrev pub invariant-loop-number : goal.invariant-loop-number
invariant-loop-number l = l.numbers.items ≡ kept_from 0 (take l.number l.rule-items)

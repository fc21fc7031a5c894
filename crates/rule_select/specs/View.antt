-- The selection that a value of the code stands for.
use Rattle.std.specs.Prelude.{map}
use Rattle.zm_logic.specs.View.{rule_tree}
use Rattle.rule_select.specs.declared.selection.Selection.{Selection}
use Rattle.rule_select.specs.Selection as selection

abbrev pub selection_tree : Selection → selection.Selection
selection_tree s = record { rules = map rule_tree s.rules; rule_of = s.rule_of }

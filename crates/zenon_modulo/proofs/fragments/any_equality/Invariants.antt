use Rattle.std.proofs.Common.{◌≡◌, drop, map}
use Rattle.zm_logic.specs.View.{premise_tree}
use Rattle.zenon_modulo.specs.Fragments.{any_equality}
use Rattle.zenon_modulo.proofs.fragments.any_equality.Given as goal

abbrev pub invariant-loop-premise : goal.invariant-loop-premise
invariant-loop-premise l = any_equality (map premise_tree (drop l.premise-index l.premises)) ≡ any_equality (map premise_tree l.premises)

use Rattle.std.proofs.Common.{◌≡◌, drop, map}
use Rattle.zm_logic.specs.View.{premise_tree}
use Rattle.zenon_modulo.specs.Fragments.{are_plain}
use Rattle.zenon_modulo.proofs.fragments.are_plain.Given as goal

abbrev pub invariant-loop-premise : goal.invariant-loop-premise
invariant-loop-premise l = are_plain (map premise_tree (drop l.premise-index l.premises)) ≡ are_plain (map premise_tree l.premises)

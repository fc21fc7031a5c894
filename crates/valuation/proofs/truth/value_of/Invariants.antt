use Rattle.std.proofs.Common.{◌≡◌, map, drop}
use Rattle.zm_logic.specs.Truth.{value_of}
use Rattle.zm_logic.specs.View.{form_tree}
use Rattle.valuation.specs.View.{valued_tree}
use Rattle.valuation.proofs.truth.value_of.Given as goal

abbrev pub invariant-loop-valued : goal.invariant-loop-valued
invariant-loop-valued l = value_of (map valued_tree l.valuation) (form_tree l.atom) ≡ value_of (map valued_tree (drop l.valued-index l.valuation)) (form_tree l.atom)

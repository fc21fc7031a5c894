-- The trees of the code's values.
use Rattle.zm_logic.specs.Truth as truth
use Rattle.zm_logic.specs.View.{form_tree}
use Rattle.valuation.specs.declared.valued.Valued.{Valued}

abbrev pub valued_tree : Valued → truth.Valued
valued_tree v = record { atom = form_tree v.atom; truth = v.truth }

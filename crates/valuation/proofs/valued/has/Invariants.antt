use Rattle.std.proofs.Common.{◌≡◌, map, drop}
use Rattle.zm_logic.specs.View.{form_tree}
use Rattle.zm_logic.specs.Same as same
use Rattle.valuation.proofs.valued.has.Given as goal

abbrev pub invariant-loop-other : goal.invariant-loop-other
invariant-loop-other l = same.has (map form_tree l.forms) (form_tree l.form) ≡ same.has (map form_tree (drop l.other-index l.forms)) (form_tree l.form)

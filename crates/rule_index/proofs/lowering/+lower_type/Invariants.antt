use Rattle.std.proofs.Common.{◌≡◌, take}
use Rattle.zm_logic.specs.View.{types_tree}
use Rattle.rule_index.specs.Matching as done
use Rattle.rule_index.proofs.lowering.+lower_type.Given as goal

abbrev pub invariant-lower_types-loop-t : goal.invariant-lower_types-loop-t
invariant-lower_types-loop-t l = types_tree l.all ≡ done.lower_types l.by (types_tree (take l.t-index l.t-items))

use Rattle.std.proofs.Common.{◌≡◌, take}
use Rattle.zm_logic.specs.View.{types_tree}
use Rattle.rule_index.specs.Instance as done
use Rattle.rule_index.proofs.lifting.+lift_type.Given as goal

abbrev pub invariant-lift_types-loop-t : goal.invariant-lift_types-loop-t
invariant-lift_types-loop-t l = types_tree l.all ≡ done.lift_types l.by (types_tree (take l.t-index l.t-items))

use Rattle.std.proofs.Common.{◌≡◌, take}
use Rattle.zm_logic.specs.View.{types_tree}
use Rattle.rule_index.specs.Instance as instance
use Rattle.rule_index.specs.View.{parts_tree}
use Rattle.rule_index.proofs.putting.+put_type.Given as goal

abbrev pub invariant-put_types-loop-t : goal.invariant-put_types-loop-t
invariant-put_types-loop-t l =
    types_tree l.all ≡ instance.put_types l.under (parts_tree l.parts) (types_tree (take l.t-index l.t-items))

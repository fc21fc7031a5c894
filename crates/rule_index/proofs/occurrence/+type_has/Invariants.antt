use Rattle.std.proofs.Common.{◌≡◌, drop}
use Rattle.zm_logic.specs.View.{types_tree}
use Rattle.zm_logic.specs.Index as indices
use Rattle.rule_index.proofs.occurrence.+type_has.Given as goal

-- the index occurs where it does from here on
abbrev pub invariant-types_have-loop-t : goal.invariant-types_have-loop-t
invariant-types_have-loop-t l =
    indices.types_have l.index (types_tree (drop l.t-index l.t-items)) ≡ indices.types_have l.index (types_tree l.t-items)

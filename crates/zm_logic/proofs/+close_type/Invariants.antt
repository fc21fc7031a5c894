use Rattle.std.proofs.Common.{◌≡◌, take}
use Rattle.zm_logic.specs.View.{types_tree}
use Rattle.zm_logic.specs.Opening as opening
use Rattle.zm_logic.proofs.+close_type.Given as goal

abbrev pub invariant-closing::close_types-loop-t : goal.invariant-closing::close_types-loop-t
invariant-closing::close_types-loop-t l =
    types_tree l.all ≡ opening.close_types l.at l.number (types_tree (take l.t-index l.t-items))

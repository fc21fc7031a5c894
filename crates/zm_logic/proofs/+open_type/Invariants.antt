use Rattle.std.proofs.Common.{◌≡◌, take}
use Rattle.zm_logic.specs.View.{types_tree, opening_tree}
use Rattle.zm_logic.specs.Opening as opening
use Rattle.zm_logic.proofs.+open_type.Given as goal

abbrev pub invariant-opening::open_types-loop-t : goal.invariant-opening::open_types-loop-t
invariant-opening::open_types-loop-t l =
    types_tree l.all ≡ opening.open_types l.at (opening_tree l.with) (types_tree (take l.t-index l.t-items))

use Rattle.std.proofs.Common.{◌≡◌, take}
use Rattle.zm_logic.specs.View.{types_tree}
use Rattle.tff_typing.specs.Fault.{shown_types}
use Rattle.tff_typing.proofs.trees.+shown.Given as goal

abbrev pub invariant-all_shown-loop-ty : goal.invariant-all_shown-loop-ty
invariant-all_shown-loop-ty l = types_tree l.all ≡ shown_types (types_tree (take l.ty-index l.ty-items))

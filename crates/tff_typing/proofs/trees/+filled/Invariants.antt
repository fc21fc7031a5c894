use Rattle.std.proofs.Common.{◌≡◌, take}
use Rattle.zm_logic.specs.View.{types_tree}
use Rattle.tff_typing.specs.Indexed.{all_filled}
use Rattle.tff_typing.proofs.trees.+filled.Given as goal

abbrev pub invariant-all_filled-loop-ty : goal.invariant-all_filled-loop-ty
invariant-all_filled-loop-ty l =
    types_tree l.all ≡ all_filled (types_tree l.parts) (types_tree (take l.ty-index l.ty-items))

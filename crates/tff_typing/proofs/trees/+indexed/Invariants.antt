use Rattle.std.proofs.Common.{◌≡◌, take}
use Rattle.zm_logic.specs.View.{types_tree}
use Rattle.tff_typing.specs.Statements.{all_indexed}
use Rattle.tff_typing.proofs.trees.+indexed.Given as goal

abbrev pub invariant-all_indexed-loop-ty : goal.invariant-all_indexed-loop-ty
invariant-all_indexed-loop-ty l = types_tree l.all ≡ all_indexed l.binders (types_tree (take l.ty-index l.ty-items))

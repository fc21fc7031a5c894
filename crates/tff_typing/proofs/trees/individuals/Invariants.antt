use Rattle.std.proofs.Common.{◌≡◌}
use Rattle.zm_logic.specs.View.{types_tree}
use Rattle.tff_typing.specs.Table.{individuals_of}
use Rattle.tff_typing.proofs.trees.individuals.Given as goal

abbrev pub invariant-loop-i : goal.invariant-loop-i
invariant-loop-i l = types_tree l.all ≡ individuals_of l._i

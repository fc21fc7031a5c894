use Rattle.std.proofs.Common.{◌≡◌, drop, length}
use Rattle.zm_logic.specs.View.{types_tree}
use Rattle.zm_logic.specs.Same.{same_types}
use Rattle.zm_logic.proofs.+same_type.Given as goal

-- the lists agree up to the index
abbrev pub invariant-sameness::same_types-loop-i : goal.invariant-sameness::same_types-loop-i
invariant-sameness::same_types-loop-i l = record {
  lengths : length l.types ≡ length l.others;
  rest : same_types (types_tree (drop l.i l.types)) (types_tree (drop l.i l.others)) ≡ same_types (types_tree l.types) (types_tree l.others);
}

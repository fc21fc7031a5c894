use Rattle.std.proofs.Common.{◌≡◌, map, take}
use Rattle.zm_logic.specs.View.{symbol_tree}
use Rattle.tff_typing.specs.Table as table
use Rattle.tff_typing.specs.View.{entry_tree}
use Rattle.tff_typing.proofs.problem.symbols_from.Given as goal

abbrev pub invariant-loop-i : goal.invariant-loop-i
invariant-loop-i l = map symbol_tree l.all ≡ table.symbols_of (map entry_tree (take l.i l.symbols.entries.entries))

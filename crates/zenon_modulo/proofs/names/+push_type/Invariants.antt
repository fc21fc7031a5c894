use Rattle.std.proofs.Common.{◌≡◌, ◌++◌, map, take, true}
use Rattle.zm_logic.specs.View.{types_tree}
use Rattle.zenon_modulo.specs.Names.{types_text}
use Rattle.zenon_modulo.proofs.names.+push_type.Given as goal

-- the arguments up to the index are written
abbrev pub invariant-push_types-loop-i : goal.invariant-push_types-loop-i
invariant-push_types-loop-i l = l.text.items ≡ l.initial.text.items ++ types_text (map (λ s. s.name) l.symbols) true (types_tree (take l.i l.types))

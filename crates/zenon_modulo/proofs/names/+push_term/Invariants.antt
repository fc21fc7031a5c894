use Rattle.std.proofs.Common.{◌≡◌, ◌++◌, map, take}
use Rattle.zm_logic.specs.View.{terms_tree}
use Rattle.zenon_modulo.specs.Names.{terms_text}
use Rattle.zenon_modulo.proofs.names.+push_term.Given as goal

-- the arguments up to the index are written
abbrev pub invariant-push_terms-loop-i : goal.invariant-push_terms-loop-i
invariant-push_terms-loop-i l = l.text.items ≡ l.initial.text.items ++ terms_text (map (λ s. s.name) l.symbols) l.is_first (terms_tree (take l.i l.terms))

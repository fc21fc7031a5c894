use Rattle.std.proofs.Common.{◌≡◌, ◌++◌, codes, take, map}
use Rattle.valuation.specs.View.{valued_tree}
use Rattle.zenon_modulo.specs.Text.{valuation_text}
use Rattle.zenon_modulo.proofs.text.falsified_text.Given as goal

abbrev pub invariant-loop-valued : goal.invariant-loop-valued
invariant-loop-valued l =
    l.text.items ≡ codes "falsified\n" ++ valuation_text (map (λ s. s.name) l.symbols) (map valued_tree (take l.valued-index l.valuation))

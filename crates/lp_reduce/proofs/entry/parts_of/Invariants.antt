use Rattle.std.proofs.Common.{◌≡◌, ◌++◌, drop}
use Rattle.std.specs.Option.{option_map}
use Rattle.lp_terms.specs.View.{term_of, terms_of}
use Rattle.lp_reduce.specs.Step.{parts}
use Rattle.lp_reduce.proofs.entry.parts_of.Given as goal

-- the parts found so far and those for the rest of the context
abbrev pub invariant-loop : goal.invariant-loop
invariant-loop l =
    option_map (λ us. terms_of l.found ++ us) (parts (terms_of (drop l.index l.context)) l.at (term_of l.left) (term_of l.term))
    ≡ parts (terms_of l.context) 0 (term_of l.left) (term_of l.term)

use Rattle.std.proofs.Common.{◌≡◌, max, drop}
use Rattle.lp_terms.specs.View.{terms_of}
use Rattle.lp_reduce.specs.Number.{terms_bound}
use Rattle.lp_reduce.proofs.number.terms_bound.Given as goal

-- the bound so far and that of the rest
abbrev pub invariant-loop-term : goal.invariant-loop-term
invariant-loop-term l = max l.most (terms_bound (terms_of (drop l.term-index l.terms))) ≡ terms_bound (terms_of l.terms)

use Rattle.std.proofs.Common.{◌≡◌, max, drop}
use Rattle.lp_terms.specs.View.{entries_of}
use Rattle.lp_reduce.specs.Number.{entries_bound}
use Rattle.lp_reduce.proofs.number.entries_bound.Given as goal

-- the bound so far and that of the rest
abbrev pub invariant-loop-entry : goal.invariant-loop-entry
invariant-loop-entry l = max l.most (entries_bound (entries_of (drop l.entry-index l.signature))) ≡ entries_bound (entries_of l.signature)

use Rattle.std.proofs.Common.{◌≡◌, drop}
use Rattle.lp_terms.specs.View.{term_of, entries_of}
use Rattle.lp_reduce.specs.Step.{first_entry_step}
use Rattle.lp_reduce.proofs.entry.first_entry_step.Given as goal

-- no entry so far has a reduction
abbrev pub invariant-loop-entry : goal.invariant-loop-entry
invariant-loop-entry l =
    first_entry_step (entries_of (drop l.entry-index l.signature)) (term_of l.term) ≡ first_entry_step (entries_of l.signature) (term_of l.term)

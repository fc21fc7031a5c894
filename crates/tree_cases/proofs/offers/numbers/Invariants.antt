use Rattle.param_store.specs.View.{HasForms}
use Rattle.tree_cases.proofs.offers.numbers.Given as goal

-- the formulas that have numbers are in the store
abbrev pub invariant-loop-field : goal.invariant-loop-field
invariant-loop-field l = HasForms l.store l.params

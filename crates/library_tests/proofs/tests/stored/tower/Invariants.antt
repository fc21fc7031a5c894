use Rattle.term_store.specs.Trees.{HasTerm}
use Rattle.library_tests.proofs.tests.stored.tower.Given as goal

abbrev pub invariant-loop-step : goal.invariant-loop-step
invariant-loop-step l = HasTerm l.store l.all

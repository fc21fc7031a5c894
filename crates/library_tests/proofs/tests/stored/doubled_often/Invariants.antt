use Rattle.term_store.specs.Trees.{HasForm}
use Rattle.library_tests.proofs.tests.stored.doubled_often.Given as goal

abbrev pub invariant-loop-step : goal.invariant-loop-step
invariant-loop-step l = HasForm l.store l.all

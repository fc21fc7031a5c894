use Rattle.rule_index.specs.View.{rules_of}
use Rattle.normaliser.proofs.Stepping.{IsLed}
use Rattle.normaliser.proofs.normalising.normal.Given as goal

abbrev pub invariant-loop-steps : goal.invariant-loop-steps
invariant-loop-steps l = IsLed (rules_of l.index) l.limit l.form l.fn.store l.store l.reached l.steps

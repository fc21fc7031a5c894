use Rattle.rule_index.specs.View.{rules_of}
use Rattle.normaliser.proofs.TermLists.{GoesOn}
use Rattle.normaliser.proofs.terms.+next_term.Given as goal

abbrev pub invariant-next_terms-loop-i : goal.invariant-next_terms-loop-i
invariant-next_terms-loop-i l = GoesOn (rules_of l.index) l.terms l.i

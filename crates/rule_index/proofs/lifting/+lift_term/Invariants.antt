use Rattle.std.proofs.Common.{◌≡◌, take}
use Rattle.zm_logic.specs.View.{terms_tree}
use Rattle.rule_index.specs.Instance as done
use Rattle.rule_index.proofs.lifting.+lift_term.Given as goal

abbrev pub invariant-lift_terms-loop-u : goal.invariant-lift_terms-loop-u
invariant-lift_terms-loop-u l = terms_tree l.all ≡ done.lift_terms l.by (terms_tree (take l.u-index l.u-items))

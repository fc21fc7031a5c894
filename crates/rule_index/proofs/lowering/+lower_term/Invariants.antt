use Rattle.std.proofs.Common.{◌≡◌, take}
use Rattle.zm_logic.specs.View.{terms_tree}
use Rattle.rule_index.specs.Matching as done
use Rattle.rule_index.proofs.lowering.+lower_term.Given as goal

abbrev pub invariant-lower_terms-loop-u : goal.invariant-lower_terms-loop-u
invariant-lower_terms-loop-u l = terms_tree l.all ≡ done.lower_terms l.by (terms_tree (take l.u-index l.u-items))

use Rattle.std.proofs.Common.{◌≡◌, take}
use Rattle.zm_logic.proofs.+copy_term.Given as goal

abbrev pub invariant-copies::copy_terms-loop-t : goal.invariant-copies::copy_terms-loop-t
invariant-copies::copy_terms-loop-t l = l.all ≡ take l.t-index l.t-items

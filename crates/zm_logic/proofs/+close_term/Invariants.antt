use Rattle.std.proofs.Common.{◌≡◌, take}
use Rattle.zm_logic.specs.View.{terms_tree}
use Rattle.zm_logic.specs.Opening as opening
use Rattle.zm_logic.proofs.+close_term.Given as goal

abbrev pub invariant-closing::close_terms-loop-u : goal.invariant-closing::close_terms-loop-u
invariant-closing::close_terms-loop-u l =
    terms_tree l.all ≡ opening.close_terms l.at l.number (terms_tree (take l.u-index l.u-items))

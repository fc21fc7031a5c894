use Rattle.std.proofs.Common.{◌≡◌, take}
use Rattle.zm_logic.specs.View.{terms_tree, opening_tree}
use Rattle.zm_logic.specs.Opening as opening
use Rattle.zm_logic.proofs.+open_term.Given as goal

abbrev pub invariant-opening::open_terms-loop-u : goal.invariant-opening::open_terms-loop-u
invariant-opening::open_terms-loop-u l =
    terms_tree l.all ≡ opening.open_terms l.at (opening_tree l.with) (terms_tree (take l.u-index l.u-items))

use Rattle.std.proofs.Common.{◌≡◌, drop, length}
use Rattle.zm_logic.specs.View.{terms_tree}
use Rattle.zm_logic.specs.Same.{same_terms}
use Rattle.zm_logic.proofs.+same_term.Given as goal

-- the lists agree up to the index
abbrev pub invariant-sameness::same_terms-loop-i : goal.invariant-sameness::same_terms-loop-i
invariant-sameness::same_terms-loop-i l = record {
  lengths : length l.terms ≡ length l.others;
  rest : same_terms (terms_tree (drop l.i l.terms)) (terms_tree (drop l.i l.others)) ≡ same_terms (terms_tree l.terms) (terms_tree l.others);
}

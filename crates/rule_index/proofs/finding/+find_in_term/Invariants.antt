use Rattle.std.proofs.Common.{◌≡◌, drop}
use Rattle.zm_logic.specs.View.{terms_tree}
use Rattle.rule_index.specs.Matching as matching
use Rattle.rule_index.proofs.finding.+find_in_term.Given as goal

-- what is found is found from here on
abbrev pub invariant-find_in_terms-loop-i : goal.invariant-find_in_terms-loop-i
invariant-find_in_terms-loop-i l =
    matching.find_in_terms l.under l.index (terms_tree (drop l.i l.terms)) (terms_tree (drop l.i l.places))
    ≡ matching.find_in_terms l.under l.index (terms_tree l.terms) (terms_tree l.places)

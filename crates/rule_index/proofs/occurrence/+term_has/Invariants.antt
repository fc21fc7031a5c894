use Rattle.std.proofs.Common.{◌≡◌, drop}
use Rattle.zm_logic.specs.View.{terms_tree}
use Rattle.zm_logic.specs.Index as indices
use Rattle.rule_index.proofs.occurrence.+term_has.Given as goal

-- the index occurs where it does from here on
abbrev pub invariant-terms_have-loop-u : goal.invariant-terms_have-loop-u
invariant-terms_have-loop-u l =
    indices.terms_have l.index (terms_tree (drop l.u-index l.u-items)) ≡ indices.terms_have l.index (terms_tree l.u-items)

use Rattle.std.proofs.Common.{◌≡◌, take}
use Rattle.zm_logic.specs.View.{terms_tree}
use Rattle.rule_index.specs.Instance as instance
use Rattle.rule_index.specs.View.{parts_tree}
use Rattle.rule_index.proofs.putting.+put_term.Given as goal

abbrev pub invariant-put_terms-loop-u : goal.invariant-put_terms-loop-u
invariant-put_terms-loop-u l =
    terms_tree l.all ≡ instance.put_terms l.under (parts_tree l.parts) (terms_tree (take l.u-index l.u-items))

use Rattle.std.proofs.Common.{◌≡◌, Ok, take}
use Rattle.zm_logic.specs.View.{types_tree, terms_tree}
use Rattle.tptp_reader.specs.View.{raw_terms_tree}
use Rattle.tff_typing.specs.Indexed.{terms_at}
use Rattle.tff_typing.specs.View.{table_tree, scope_tree}
use Rattle.tff_typing.proofs.terms.+expression_in.Given as goal

abbrev pub invariant-terms_in-loop-i : goal.invariant-terms_in-loop-i
invariant-terms_in-loop-i l =
    terms_at (table_tree l.fn.symbols) (scope_tree l.scope) l.skipped (types_tree l.types)
    (raw_terms_tree (take l.i l.parts))
    ≡ Ok (record { tree = terms_tree l.all; table = table_tree l.symbols })

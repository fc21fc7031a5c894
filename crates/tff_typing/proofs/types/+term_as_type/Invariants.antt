use Rattle.std.proofs.Common.{◌≡◌, Ok, take}
use Rattle.zm_logic.specs.View.{types_tree}
use Rattle.tptp_reader.specs.View.{raw_terms_tree}
use Rattle.tff_typing.specs.Written.{as_types}
use Rattle.tff_typing.specs.Places.{types_in}
use Rattle.tff_typing.specs.View.{table_tree, scope_tree}
use Rattle.tff_typing.proofs.types.+term_as_type.Given as goal

abbrev pub invariant-terms_as_types-loop-raw : goal.invariant-terms_as_types-loop-raw
invariant-terms_as_types-loop-raw l =
    types_in (table_tree l.symbols) (scope_tree l.scope) (as_types (raw_terms_tree (take l.raw-index l.raws)))
    ≡ Ok (types_tree l.all)

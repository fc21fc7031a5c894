use Rattle.std.proofs.Common.{◌≡◌, Ok, take}
use Rattle.zm_logic.specs.View.{types_tree}
use Rattle.tptp_reader.specs.View.{raw_types_tree}
use Rattle.tff_typing.specs.Places.{types_in}
use Rattle.tff_typing.specs.View.{table_tree, scope_tree}
use Rattle.tff_typing.proofs.types.+type_in.Given as goal

abbrev pub invariant-types_in-loop-raw : goal.invariant-types_in-loop-raw
invariant-types_in-loop-raw l =
    types_in (table_tree l.symbols) (scope_tree l.scope) (raw_types_tree (take l.raw-index l.raw-items))
    ≡ Ok (types_tree l.all)

use Rattle.std.proofs.Common.{◌≡◌, Ok, take}
use Rattle.zm_logic.specs.View.{types_tree}
use Rattle.tptp_reader.specs.View.{raw_types_tree}
use Rattle.tff_typing.specs.Statements.{arguments_in}
use Rattle.tff_typing.specs.View.{table_tree, scope_tree}
use Rattle.tff_typing.proofs.declarations.arguments_in.Given as goal

abbrev pub invariant-loop-raw : goal.invariant-loop-raw
invariant-loop-raw l =
    arguments_in (table_tree l.symbols) (scope_tree l.scope) l.kinds (raw_types_tree (take l.raw-index l.raw-items))
    ≡ Ok (types_tree l.all)

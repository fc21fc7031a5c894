use Rattle.std.proofs.Common.{◌≡◌, Ok, [], map, take}
use Rattle.tptp_reader.specs.View.{raw_variable_tree}
use Rattle.tff_typing.specs.Statements.{type_variables}
use Rattle.tff_typing.specs.View.{scope_tree}
use Rattle.tff_typing.proofs.declarations.type_variables.Given as goal

abbrev pub invariant-loop-variable : goal.invariant-loop-variable
invariant-loop-variable l =
    type_variables [] (map raw_variable_tree (take l.variable-index l.variable-items)) ≡ Ok (scope_tree l.scope.items)

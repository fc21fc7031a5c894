use Rattle.std.proofs.Common.{option_map}
use Rattle.std.proofs.lemmas.Result.{err_from_is_err_and}
use Rattle.zm_logic.specs.View.{type_tree}
use Rattle.tff_typing.specs.View.{table_tree, scope_tree}
use Rattle.tff_typing.proofs.Declared.{arguments_stop}
use Rattle.tff_typing.proofs.declarations.arguments_in.Goals as goal

pub returns-in_err-argument : goal.returns-in_err-argument
returns-in_err-argument c =
    let p = err_from_is_err_and c.from_residual.result c.from_residual.ensures.1 in
    let v = c.as_slice-raw-items.ensures in
    rw (p.1, p.2)
    (arguments_stop (option_map type_tree) (table_tree c.args.symbols.now)
    (scope_tree c.args.scope.now) c.args.kinds c.args.raws.now c.loop-raw.raw-index c.raw-item.result c.loop-raw.all
    c.in_err-argument.field-0.0 (rw v at c.loop-raw-test.true) (rw v at c.raw-item.is)
    (rw v at c.loop-raw.invariant) c.in_err-argument.ensures)

use Rattle.std.proofs.lemmas.Result.{err_from_is_err_and}
use Rattle.tff_typing.specs.View.{table_tree, scope_tree, expression_tree}
use Rattle.zm_logic.specs.View.{terms_tree}
use Rattle.tff_typing.proofs.Arguments.{stop, refused}
use Rattle.tff_typing.proofs.terms.+expression_in.Goals as goal

pub terms_in-returns-in_err-found : goal.terms_in-returns-in_err-found
terms_in-returns-in_err-found t c =
    let p = err_from_is_err_and c.from_residual.result c.from_residual.ensures.1 in
    let h = c.in-Some.ensures.lookup in
    rw (p.1, p.2)
    (stop expression_tree c.in_err-found.field-0.0 c.expression_in.new.symbols c.expression_in.new.symbols
    (table_tree c.args.symbols.now) (scope_tree c.args.scope.now)
    c.args.skipped c.loop-i.i c.args.types.now c.args.parts.now c.index-parts-i.result c.in-Some.ty.now
    (terms_tree c.loop-i.all) (table_tree c.loop-i.symbols)
    c.loop-i-test.true c.if-i-skipped.false c.index-parts-i.is h.3.0 h.1 c.loop-i.invariant c.in_err-found.ensures)

pub terms_in-returns-in_err-wanted : goal.terms_in-returns-in_err-wanted
terms_in-returns-in_err-wanted t c =
    let p = err_from_is_err_and c.from_residual-in_err-wanted.result c.from_residual-in_err-wanted.ensures.1 in
    let h = c.in-Some.ensures.lookup in
    rw (p.1, p.2)
    (refused c.in_err-wanted.field-0.0 c.expression_in.new.symbols (table_tree c.args.symbols.now)
    (scope_tree c.args.scope.now)
    c.args.skipped c.loop-i.i c.args.types.now c.args.parts.now c.index-parts-i.result c.in-Some.ty.now
    (expression_tree c.in_ok-found.found)
    (terms_tree c.loop-i.all) (table_tree c.loop-i.symbols) (table_tree c.expression_in.new.symbols)
    c.loop-i-test.true c.if-i-skipped.false c.index-parts-i.is h.3.0 h.1 c.loop-i.invariant c.in_ok-found.ensures
    c.in_err-wanted.ensures)

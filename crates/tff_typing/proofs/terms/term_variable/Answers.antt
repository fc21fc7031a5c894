use Rattle.tff_typing.proofs.ScopeLists.{bound_got, length_scope}
use Rattle.tff_typing.proofs.terms.term_variable.Goals as goal

pub returns-in-Some : goal.returns-in-Some
returns-in-Some c =
    let v = c.index-scope-i.result in
    let b = bound_got c.args.scope.now c.in-Some.i v c.in-Some.ensures.within c.index-scope-i.is in
    rw (c.in-Some.ensures.found, b, length_scope c.args.scope.now) (rw (← c.index-scope-i.is) at c.as_term.ensures)

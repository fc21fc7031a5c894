use Rattle.std.proofs.Common.{sym}
use Rattle.term_store.specs.Trees.{form_of}
use Rattle.param_store.specs.View.{forms_of}
use Rattle.branch.proofs.Noted.{cant_close}
use Rattle.branch.proofs.closing.closing_noted.Goals as goal

pub returns-else-may_close-clause-value : goal.returns-else-may_close-clause-value
returns-else-may_close-clause-value c =
    let s = c.args.store.now in
    sym (cant_close s (forms_of s c.args.earlier.now) c.args.noted.now (form_of s c.args.later) c.requires.noted (c.may_close.ensures c.if-may_close.false))

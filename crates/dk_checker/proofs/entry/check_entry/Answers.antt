use Rattle.std.proofs.lemmas.Result.{err_from_is_err_and}
use Rattle.lp_terms.specs.View.{term_of, entries_of}
use Rattle.dk_checker.proofs.Entries.{define_stops}
use Rattle.dk_checker.proofs.entry.check_entry.Goals as goal

pub returns-in_err-check_type-in-Define : goal.returns-in_err-check_type-in-Define
returns-in_err-check_type-in-Define c =
    let p = err_from_is_err_and c.from_residual.result c.from_residual.ensures.1 in
    rw (p.1, p.2, c.in-Define.is) (define_stops (entries_of c.args.signature.now) c.args.limit c.in-Define.name (term_of c.in-Define.ty) (term_of c.in-Define.body)
    c.in_err-check_type-in-Define.field-0.0 c.in_err-check_type-in-Define.ensures)

use Rattle.std.proofs.lemmas.Result.{err_from_is_err_and}
use Rattle.lp_terms.specs.View.{term_of, entries_of}
use Rattle.dk_checker.proofs.Entries.{type_stops}
use Rattle.dk_checker.proofs.entry.check_type.Goals as goal

pub returns-in_err-in_part : goal.returns-in_err-in_part
returns-in_err-in_part c =
    let p = err_from_is_err_and c.from_residual.result c.from_residual.ensures.1 in
    rw (p.1, p.2) (type_stops (entries_of c.args.signature.now) c.args.limit (term_of c.args.ty.now) c.sort_of.result c.in_part.result c.in_err-in_part.field-0.0
    c.sort_of.ensures c.in_part.ensures c.in_err-in_part.was)

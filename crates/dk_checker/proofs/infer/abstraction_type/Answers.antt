use Rattle.std.proofs.lemmas.Result.{err_from_is_err_and}
use Rattle.lp_terms.specs.View.{term_of}
use Rattle.dk_checker.specs.View.{class_of}
use Rattle.dk_checker.proofs.Ends.{body_stops}
use Rattle.dk_checker.proofs.infer.abstraction_type.Goals as goal

pub returns-in_err-body : goal.returns-in_err-body
returns-in_err-body c =
    let p = err_from_is_err_and c.from_residual.result c.from_residual.ensures.1 in
    rw (p.1, p.2) (body_stops c.args.number (term_of c.args.domain) (class_of c.args.found) c.asks_body.result c.in_part.result c.in_err-body.field-0.0 c.asks_body.ensures c.in_part.ensures c.in_err-body.was)

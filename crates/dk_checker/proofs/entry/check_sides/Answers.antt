use Rattle.std.proofs.Common.{◌≡◌, length, ap, ◌∙◌, arith, subst}
use Rattle.std.proofs.lemmas.Result.{err_from_is_err_and}
use Rattle.lp_terms.specs.View.{term_of, entries_of}
use Rattle.dk_checker.specs.View.{InPart}
use Rattle.dk_checker.proofs.Ends.{kept_part}
use Rattle.dk_checker.proofs.Entries.{left_stops, right_ends}
use Rattle.dk_checker.proofs.entry.check_sides.Goals as goal

pub returns-in_err-wanted : goal.returns-in_err-wanted
returns-in_err-wanted c =
    let p = err_from_is_err_and c.from_residual-in_err-wanted.result c.from_residual-in_err-wanted.ensures.1 in
    rw (p.1, p.2) (left_stops (entries_of c.args.signature.now) c.args.limit c.args.types.now c.in_ok-number.number (term_of c.args.left.now) (term_of c.args.right.now)
    c.infer-found.result c.in_part.result c.in_err-wanted.field-0.0 (c.in_ok-number.ensures.many ∙ ap length c.as_slice.ensures) c.infer-found.ensures.told
    (subst (λ k. InPart k c.infer-found.result c.in_part.result) c.len-place.ensures c.in_part.ensures) c.in_err-wanted.was)

pub returns : goal.returns
returns c =
    let n : c.in_ok-number.number ≡ length c.args.types.now = c.in_ok-number.ensures.many ∙ ap length c.as_slice.ensures in
    let p : InPart (length c.args.types.now) c.infer-found.result c.in_part.result =
    subst (λ k. InPart k c.infer-found.result c.in_part.result) c.len-place.ensures c.in_part.ensures in
    right_ends (entries_of c.args.signature.now) c.args.limit c.args.types.now c.infer-found.new.types c.in_ok-number.number _ (term_of c.args.left.now) (term_of c.args.right.now)
    c.infer-found.result c.in_part.result c.in_ok-wanted.wanted c.infer_as-asked.result c.in_part-2.result n (omega (arith, c.len-place.ensures))
    (kept_part _ (length c.args.types.now) c.infer-found.result c.in_part.result c.in_ok-wanted.wanted c.infer-found.ensures.kept p c.in_ok-wanted.was)
    c.infer-found.ensures.told p c.in_ok-wanted.was c.infer_as-asked.ensures.told c.in_part-2.ensures

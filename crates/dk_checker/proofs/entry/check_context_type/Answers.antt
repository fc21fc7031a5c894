use Rattle.std.proofs.Common.{◌≡◌, length, ◌++◌, ◌∷◌, [], ap, ◌∙◌}
use Rattle.std.proofs.lemmas.Result.{err_from_is_err_and}
use Rattle.lp_terms.specs.declared.term.Lp.TheVariants.{Sort}
use Rattle.lp_terms.specs.Typing.{Class}
use Rattle.lp_terms.specs.Reduction.{instance_at}
use Rattle.lp_terms.specs.View.{term_of, entries_of}
use Rattle.lp_reduce.proofs.Layers.{sort_is}
use Rattle.dk_checker.specs.View.{variables}
use Rattle.dk_checker.proofs.Variables.{with_variables}
use Rattle.dk_checker.proofs.Ends.{kept_part}
use Rattle.dk_checker.proofs.Entries.{next_stops}
use Rattle.dk_checker.proofs.entry.check_context_type.Goals as goal

pub returns-in_err-in_part-clause-told : goal.returns-in_err-in_part-clause-told
returns-in_err-in_part-clause-told c =
    let p = err_from_is_err_and c.from_residual-in_err-in_part.result c.from_residual-in_err-in_part.ensures.1 in
    rw (p.1, p.2) (next_stops (entries_of c.args.signature.now) c.args.limit c.args.types.now c.in_ok-number.number (term_of c.args.ty.now) (Class.of (term_of Sort))
    c.infer_as-asked.result c.in_part.result c.in_err-in_part.field-0.0 (c.in_ok-number.ensures.many ∙ ap length c.as_slice.ensures) (ap Class.of sort_is)
    c.infer_as-asked.ensures.told c.in_part.ensures c.in_err-in_part.was)

pub returns-clause-added : goal.returns-clause-added
returns-clause-added c =
    let n : c.in_ok-number.number ≡ length c.args.types.now = c.in_ok-number.ensures.many ∙ ap length c.as_slice.ensures in
    let k : c.infer_as-asked.new.types ≡ c.args.types.now =
    kept_part _ c.in_ok-number.number c.infer_as-asked.result c.in_part.result c.in_ok-in_part.field-0 c.infer_as-asked.ensures.kept c.in_part.ensures c.in_ok-in_part.was in (
      c.in_ok-ty.ty,
      c.in_ok-push.ensures.ok ∙ ap (λ ts. ts ++ c.in_ok-ty.ty ∷ []) k,
      c.in_ok-ty.ensures ∙ with_variables c.in_ok-number.number c.in_ok-number.number (term_of c.args.ty.now)
          ∙ ap (λ d. instance_at 0 (variables d d) (term_of c.args.ty.now)) n,
    )

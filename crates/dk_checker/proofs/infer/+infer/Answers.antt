use Rattle.std.proofs.Common.{◌≡◌, length, sym, ap, ◌∙◌, arith}
use Rattle.std.proofs.lemmas.Result.{err_from_is_err_and}
use Rattle.lp_terms.specs.declared.term.Lp.TheVariants.{Sort}
use Rattle.lp_terms.specs.View.{term_of, entries_of}
use Rattle.lp_terms.specs.Term as plain
use Rattle.lp_terms.specs.Typing as typing
use Rattle.lp_reduce.proofs.Layers.{sort_is}
use Rattle.dk_checker.specs.Found.{Found}
use Rattle.dk_checker.specs.Told.{is_product}
use Rattle.dk_checker.specs.Asking.{depth}
use Rattle.dk_checker.specs.View.{class_of, under_of, context_of}
use Rattle.dk_checker.proofs.Telling.{application_stops, function_is_product}
use Rattle.dk_checker.proofs.Variables.{length_push}
use Rattle.dk_checker.proofs.Ends.{kept_part, kept_in_part, kept_anyway, kept_then, reduced_form_stops, reduced_no_product, reduced_asked_stops, reduced_ends, more_none, more_stops, more_ends, application_asked_stops, application_ends, function_stops, function_kind, function_ends, as_stops, as_ends, abstraction_stops, abstraction_ends, product_stops, product_ends, binder_domain_stops, binder_ends, pushed_stops, pushed_ends, pushed_kept}
use Rattle.dk_checker.proofs.infer.+infer.Goals as goal

pub ask_more-returns-in-None-clause-told : goal.ask_more-returns-in-None-clause-told
ask_more-returns-in-None-clause-told t c =
    more_none (entries_of c.args.signature.now) c.args.limit c.args.chain c.args.types.now (term_of c.args.ty.now) (plain.Lp.prod (term_of c.args.a.now) (term_of c.args.b.now)) c.spent.result
    (omega (arith, c.in-None.ensures)) c.spent.ensures

pub ask_more-returns-in-Err-clause-told : goal.ask_more-returns-in-Err-clause-told
ask_more-returns-in-Err-clause-told t c =
    more_stops (entries_of c.args.signature.now) c.args.limit c.args.chain c.args.types.now c.in-Some.left (term_of c.args.ty.now) (plain.Lp.prod (term_of c.args.a.now) (term_of c.args.b.now))
    c.in-Err.stop c.stop_here.result (omega (arith, c.in-Some.ensures)) c.in-Err.ensures.told c.stop_here.ensures

pub ask_more-returns-clause-told : goal.ask_more-returns-clause-told
ask_more-returns-clause-told t c =
    more_ends (entries_of c.args.signature.now) c.args.limit c.args.chain c.args.types.now c.in-Some.left (term_of c.args.ty.now) (plain.Lp.prod (term_of c.args.a.now) (term_of c.args.b.now))
    (class_of c.in-Ok.field-0) (omega (arith, c.in-Some.ensures)) c.in-Ok.ensures.told

pub ask_more-returns-clause-kept : goal.ask_more-returns-clause-kept
ask_more-returns-clause-kept t c = c.in-Ok.ensures.kept

pub infer_abstraction-returns-in_err-number-clause-told : goal.infer_abstraction-returns-in_err-number-clause-told
infer_abstraction-returns-in_err-number-clause-told t c =
    let p = err_from_is_err_and c.from_residual.result c.from_residual.ensures.1 in
    rw (p.1, p.2, c.in_err-number.ensures.stopped) tt

pub infer_abstraction-returns-in-Err-clause-told : goal.infer_abstraction-returns-in-Err-clause-told
infer_abstraction-returns-in-Err-clause-told t c =
    abstraction_stops (entries_of c.args.signature.now) c.args.limit c.args.chain c.args.types.now c.args.inner (term_of c.args.a.now) (term_of c.args.t.now) c.in-Err.stop c.in-Err.ensures.told

pub infer_abstraction-returns-in-Ok-clause-told : goal.infer_abstraction-returns-in-Ok-clause-told
infer_abstraction-returns-in-Ok-clause-told t c =
    abstraction_ends (entries_of c.args.signature.now) c.args.limit c.args.chain c.args.types.now c.args.inner c.in_ok-number.number (term_of c.args.a.now) (term_of c.args.t.now)
    (under_of (c.in-Ok.domain, c.in-Ok.found)) c.abstraction_type.result (c.in_ok-number.ensures.deep ∙ ap (λ ts. depth (context_of ts)) c.as_slice.ensures) c.in-Ok.ensures.told c.abstraction_type.ensures

pub infer_abstraction-returns-in-Ok-clause-kept : goal.infer_abstraction-returns-in-Ok-clause-kept
infer_abstraction-returns-in-Ok-clause-kept t c = kept_anyway _ c.abstraction_type.result c.in-Ok.ensures.kept

pub infer_application-returns-in_err-domain-clause-told : goal.infer_application-returns-in_err-domain-clause-told
infer_application-returns-in_err-domain-clause-told t c =
    let p = err_from_is_err_and c.from_residual.result c.from_residual.ensures.1 in
    rw (p.1, p.2) (application_stops (entries_of c.args.signature.now) c.args.limit c.args.chain c.args.types.now c.args.inner (term_of c.args.f.now) (term_of c.args.a.now)
    c.infer_function-product.result c.in_part.result c.in_err-domain.field-0.0 c.infer_function-product.ensures.told c.in_part.ensures c.in_err-domain.was)

pub infer_application-returns-in_err-in_part-clause-told : goal.infer_application-returns-in_err-in_part-clause-told
infer_application-returns-in_err-in_part-clause-told t c =
    let p = err_from_is_err_and c.from_residual-in_err-in_part.result c.from_residual-in_err-in_part.ensures.1 in
    rw (p.1, p.2) (application_asked_stops (entries_of c.args.signature.now) c.args.limit c.args.chain c.args.types.now c.args.inner c.infer_function-product.new.types (term_of c.args.f.now) (term_of c.args.a.now)
    c.infer_function-product.result c.in_part.result (c.in_ok-domain.domain, c.in_ok-domain.codomain) c.infer_as-asked.result c.in_part-2.result c.in_err-in_part.field-0.0
    (kept_part _ 0 c.infer_function-product.result c.in_part.result (c.in_ok-domain.domain, c.in_ok-domain.codomain) c.infer_function-product.ensures.kept c.in_part.ensures c.in_ok-domain.was)
    c.infer_function-product.ensures.told c.in_part.ensures c.in_ok-domain.was c.infer_as-asked.ensures.told c.in_part-2.ensures c.in_err-in_part.was)

pub infer_application-returns-clause-told : goal.infer_application-returns-clause-told
infer_application-returns-clause-told t c =
    let k : c.infer_function-product.new.types ≡ c.args.types.now =
    kept_part _ 0 c.infer_function-product.result c.in_part.result (c.in_ok-domain.domain, c.in_ok-domain.codomain) c.infer_function-product.ensures.kept c.in_part.ensures c.in_ok-domain.was in
    let l : c.infer_as-asked.new.types ≡ c.infer_function-product.new.types =
    kept_part _ 1 c.infer_as-asked.result c.in_part-2.result c.in_ok-in_part.field-0 c.infer_as-asked.ensures.kept c.in_part-2.ensures c.in_ok-in_part.was in
    application_ends (entries_of c.args.signature.now) c.args.limit c.args.chain c.args.types.now c.args.inner c.infer_function-product.new.types c.as_slice.result.now (term_of c.args.f.now) (term_of c.args.a.now)
    c.infer_function-product.result c.in_part.result (c.in_ok-domain.domain, c.in_ok-domain.codomain) c.infer_as-asked.result c.in_part-2.result c.in_ok-in_part.field-0 c.applied_type.result
    k (c.as_slice.ensures ∙ l ∙ k)
    c.infer_function-product.ensures.told c.in_part.ensures c.in_ok-domain.was c.infer_as-asked.ensures.told c.in_part-2.ensures c.in_ok-in_part.was c.applied_type.ensures

pub infer_application-returns-clause-kept : goal.infer_application-returns-clause-kept
infer_application-returns-clause-kept t c =
    let k : c.infer_function-product.new.types ≡ c.args.types.now =
    kept_part _ 0 c.infer_function-product.result c.in_part.result (c.in_ok-domain.domain, c.in_ok-domain.codomain) c.infer_function-product.ensures.kept c.in_part.ensures c.in_ok-domain.was in
    let l : c.infer_as-asked.new.types ≡ c.infer_function-product.new.types =
    kept_part _ 1 c.infer_as-asked.result c.in_part-2.result c.in_ok-in_part.field-0 c.infer_as-asked.ensures.kept c.in_part-2.ensures c.in_ok-in_part.was in
    kept_anyway _ c.applied_type.result (l ∙ k)

pub infer_as-returns-in_err-number-clause-told : goal.infer_as-returns-in_err-number-clause-told
infer_as-returns-in_err-number-clause-told t c =
    let p = err_from_is_err_and c.from_residual.result c.from_residual.ensures.1 in
    rw (p.1, p.2, c.in_err-number.ensures.stopped) tt

pub infer_as-returns-in-Err-clause-told : goal.infer_as-returns-in-Err-clause-told
infer_as-returns-in-Err-clause-told t c =
    as_stops (entries_of c.args.signature.now) c.args.limit c.args.chain c.args.types.now c.args.inner (class_of c.args.wanted) (term_of c.args.term.now) c.in-Err.stop c.in-Err.ensures.told

pub infer_as-returns-in-Ok-clause-told : goal.infer_as-returns-in-Ok-clause-told
infer_as-returns-in-Ok-clause-told t c =
    as_ends (entries_of c.args.signature.now) c.args.limit c.args.chain c.args.types.now c.args.inner c.in_ok-number.number (class_of c.args.wanted) (class_of c.in-Ok.found) (term_of c.args.term.now)
    c.asks.result (c.in_ok-number.ensures.deep ∙ ap (λ ts. depth (context_of ts)) c.as_slice.ensures) c.in-Ok.ensures.told c.asks.ensures

pub infer_as-returns-in-Ok-clause-kept : goal.infer_as-returns-in-Ok-clause-kept
infer_as-returns-in-Ok-clause-kept t c = kept_anyway _ c.asks.result c.in-Ok.ensures.kept

pub infer_binder-returns-in_err-in_part-clause-told : goal.infer_binder-returns-in_err-in_part-clause-told
infer_binder-returns-in_err-in_part-clause-told t c =
    let p = err_from_is_err_and c.from_residual.result c.from_residual.ensures.1 in
    rw (p.1, p.2) (binder_domain_stops (entries_of c.args.signature.now) c.args.limit c.args.chain c.args.types.now c.args.inner (term_of c.args.a.now) (term_of c.args.t.now) (typing.Class.of (term_of Sort))
    c.infer_as-asked.result c.in_part.result c.in_err-in_part.field-0.0 (ap typing.Class.of sort_is) c.infer_as-asked.ensures.told c.in_part.ensures c.in_err-in_part.was)

pub infer_binder-returns-in_err-domain-clause-told : goal.infer_binder-returns-in_err-domain-clause-told
infer_binder-returns-in_err-domain-clause-told t c =
    let p = err_from_is_err_and c.from_residual-in_err-domain.result c.from_residual-in_err-domain.ensures.1 in
    rw (p.1, p.2, c.in_err-domain.ensures.err) tt

pub infer_binder-returns-clause-told : goal.infer_binder-returns-clause-told
infer_binder-returns-clause-told t c =
    let k : c.infer_as-asked.new.types ≡ c.args.types.now =
    kept_part _ 0 c.infer_as-asked.result c.in_part.result c.in_ok-in_part.field-0 c.infer_as-asked.ensures.kept c.in_part.ensures c.in_ok-in_part.was in
    binder_ends (entries_of c.args.signature.now) c.args.limit c.args.chain c.args.types.now c.args.inner c.as_slice.result.now c.infer_as-asked.new.types (term_of c.args.a.now) (term_of c.args.t.now)
    (term_of c.in_ok-domain.domain) (typing.Class.of (term_of Sort)) c.infer_as-asked.result c.in_part.result c.in_ok-in_part.field-0 c.infer_under-under.result c.in_part-2.result
    (c.as_slice.ensures ∙ k) k (ap typing.Class.of sort_is) c.infer_as-asked.ensures.told c.in_part.ensures c.in_ok-in_part.was c.in_ok-domain.ensures.ok c.infer_under-under.ensures.told c.in_part-2.ensures

pub infer_binder-returns-clause-kept : goal.infer_binder-returns-clause-kept
infer_binder-returns-clause-kept t c =
    let k : c.infer_as-asked.new.types ≡ c.args.types.now =
    kept_part _ 0 c.infer_as-asked.result c.in_part.result c.in_ok-in_part.field-0 c.infer_as-asked.ensures.kept c.in_part.ensures c.in_ok-in_part.was in
    kept_then c.in_part-2.result _ _ _ (kept_in_part _ 1 c.infer_under-under.result c.in_part-2.result c.infer_under-under.ensures.kept c.in_part-2.ensures) k

pub infer_function-returns-in-Err-clause-told : goal.infer_function-returns-in-Err-clause-told
infer_function-returns-in-Err-clause-told t c =
    function_stops (entries_of c.args.signature.now) c.args.limit c.args.chain c.args.types.now c.args.inner (term_of c.args.f.now) c.in-Err.stop c.in-Err.ensures.told

pub infer_function-returns-in-Ok-Kind-clause-told : goal.infer_function-returns-in-Ok-Kind-clause-told
infer_function-returns-in-Ok-Kind-clause-told t c =
    function_kind (entries_of c.args.signature.now) c.args.limit c.args.chain c.args.types.now c.args.inner (term_of c.args.f.now) c.no_product.result
    (c.in-Ok-Kind.ensures.told ∙ ap (λ k. Found.gives (class_of k)) c.in-Ok-Kind.field-0-is) c.no_product.ensures

pub infer_function-returns-in-Ok-clause-told : goal.infer_function-returns-in-Ok-clause-told
infer_function-returns-in-Ok-clause-told t c =
    function_is_product (entries_of c.args.signature.now) c.args.limit c.args.chain c.args.types.now c.args.inner (term_of c.args.f.now) (term_of c.in-Ok-Of.ty) c.in-Ok.parts
    (c.in-Ok-Of.ensures.told ∙ ap (λ k. Found.gives (class_of k)) c.in-Ok-Of.field-0-is) c.in-Ok.ensures

pub infer_function-returns-in-Ok-clause-kept : goal.infer_function-returns-in-Ok-clause-kept
infer_function-returns-in-Ok-clause-kept t c = c.in-Ok-Of.ensures.kept

pub infer_function-returns-in-Err-split-clause-told : goal.infer_function-returns-in-Err-split-clause-told
infer_function-returns-in-Err-split-clause-told t c =
    function_ends (entries_of c.args.signature.now) c.args.limit c.args.chain c.args.types.now c.args.inner c.infer.new.types (term_of c.args.f.now) c.in-Err-split.ty c.reduced_product.result
    c.in-Ok-Of.ensures.kept
    (c.in-Ok-Of.ensures.told ∙ ap (λ k. Found.gives (class_of k)) c.in-Ok-Of.field-0-is ∙ ap (λ k. Found.gives (typing.Class.of (term_of k))) (sym c.in-Err-split.ensures.0))
    (ap (λ k. is_product (term_of k)) c.in-Err-split.ensures.0 ∙ c.in-Err-split.ensures.1) c.reduced_product.ensures.told

pub infer_function-returns-in-Err-split-clause-kept : goal.infer_function-returns-in-Err-split-clause-kept
infer_function-returns-in-Err-split-clause-kept t c = kept_then c.reduced_product.result _ _ _ c.reduced_product.ensures.kept c.in-Ok-Of.ensures.kept

pub infer_product-returns-in_err-depth-clause-told : goal.infer_product-returns-in_err-depth-clause-told
infer_product-returns-in_err-depth-clause-told t c =
    let p = err_from_is_err_and c.from_residual.result c.from_residual.ensures.1 in
    rw (p.1, p.2, c.in_err-depth.ensures.stopped) tt

pub infer_product-returns-in_err-above-clause-told : goal.infer_product-returns-in_err-above-clause-told
infer_product-returns-in_err-above-clause-told t c =
    let p = err_from_is_err_and c.from_residual-in_err-above.result c.from_residual-in_err-above.ensures.1 in
    rw (p.1, p.2) tt

pub infer_product-returns-in-Err-clause-told : goal.infer_product-returns-in-Err-clause-told
infer_product-returns-in-Err-clause-told t c =
    product_stops (entries_of c.args.signature.now) c.args.limit c.args.chain c.args.types.now c.args.inner (term_of c.args.a.now) (term_of c.args.b.now) c.in-Err.stop c.in-Err.ensures.told

pub infer_product-returns-clause-told : goal.infer_product-returns-clause-told
infer_product-returns-clause-told t c =
    product_ends (entries_of c.args.signature.now) c.args.limit c.args.chain c.args.types.now c.args.inner c.in_ok-depth.field-0 c.in_ok-above.above (term_of c.args.a.now) (term_of c.args.b.now)
    (under_of (c.in-Ok.field-0-0, c.in-Ok.found)) c.asks_sort.result c.in_part.result (c.in_ok-depth.ensures.deep ∙ ap (λ ts. depth (context_of ts)) c.as_slice.ensures) c.in_ok-above.ensures c.in-Ok.ensures.told
    c.asks_sort.ensures c.in_part.ensures

pub infer_product-returns-clause-kept : goal.infer_product-returns-clause-kept
infer_product-returns-clause-kept t c = kept_anyway _ c.in_part.result c.in-Ok.ensures.kept

pub infer_under-returns-in_err-under-clause-told : goal.infer_under-returns-in_err-under-clause-told
infer_under-returns-in_err-under-clause-told t c =
    let p = err_from_is_err_and c.from_residual.result c.from_residual.ensures.1 in
    rw (p.1, p.2) tt

pub infer_under-returns-in_err-push-clause-told : goal.infer_under-returns-in_err-push-clause-told
infer_under-returns-in_err-push-clause-told t c =
    let p = err_from_is_err_and c.from_residual-in_err-push.result c.from_residual-in_err-push.ensures.1 in
    rw (p.1, p.2) tt

pub infer_under-remove-requires : goal.infer_under-remove-requires
infer_under-remove-requires t c =
    let l = ap length (c.in-Ok.ensures.kept ∙ c.in_ok-push.ensures.ok) ∙ length_push c.args.types.now c.args.domain in
    omega (arith, l, c.len-place.ensures)

pub infer_under-returns-in-Err-clause-told : goal.infer_under-returns-in-Err-clause-told
infer_under-returns-in-Err-clause-told t c =
    pushed_stops (entries_of c.args.signature.now) c.args.limit c.args.chain c.args.types.now c.args.inner c.push.new.self c.in_ok-under.under c.args.domain (term_of c.args.t.now) c.in-Err.stop
    c.in_ok-push.ensures.ok c.in_ok-under.ensures c.in-Err.ensures.told

pub infer_under-returns-in-Ok-clause-told : goal.infer_under-returns-in-Ok-clause-told
infer_under-returns-in-Ok-clause-told t c =
    pushed_ends (entries_of c.args.signature.now) c.args.limit c.args.chain c.args.types.now c.args.inner c.push.new.self c.infer.new.types c.in_ok-under.under c.args.domain c.remove.result (term_of c.args.t.now)
    c.in-Ok.found c.in_ok-push.ensures.ok c.in-Ok.ensures.kept c.in_ok-under.ensures c.in-Ok.ensures.told (rw c.len-place.ensures at c.remove.ensures.item)

pub infer_under-returns-in-Ok-clause-kept : goal.infer_under-returns-in-Ok-clause-kept
infer_under-returns-in-Ok-clause-kept t c =
    pushed_kept c.args.types.now c.infer.new.types c.remove.new.self c.args.domain (c.in-Ok.ensures.kept ∙ c.in_ok-push.ensures.ok) (rw c.len-place.ensures at c.remove.ensures.rest)

pub reduced_product-returns-in_err-number-clause-told : goal.reduced_product-returns-in_err-number-clause-told
reduced_product-returns-in_err-number-clause-told t c =
    let p = err_from_is_err_and c.from_residual.result c.from_residual.ensures.1 in
    rw (p.1, p.2, c.in_err-number.ensures.stopped) tt

pub reduced_product-returns-in_err-form-clause-told : goal.reduced_product-returns-in_err-form-clause-told
reduced_product-returns-in_err-form-clause-told t c =
    let p = err_from_is_err_and c.from_residual-in_err-form.result c.from_residual-in_err-form.ensures.1 in
    rw (p.1, p.2) (reduced_form_stops (entries_of c.args.signature.now) c.args.limit c.args.chain c.args.types.now c.in_ok-number.number (term_of c.args.ty) c.in_err-form.field-0.0
    (c.in_ok-number.ensures.deep ∙ ap (λ ts. depth (context_of ts)) c.as_slice.ensures) c.in_err-form.ensures)

pub reduced_product-returns-in-Err-clause-told : goal.reduced_product-returns-in-Err-clause-told
reduced_product-returns-in-Err-clause-told t c =
    reduced_no_product (entries_of c.args.signature.now) c.args.limit c.args.chain c.args.types.now c.in_ok-number.number (term_of c.args.ty) (term_of c.in-Err.form) c.no_product.result
    (c.in_ok-number.ensures.deep ∙ ap (λ ts. depth (context_of ts)) c.as_slice.ensures) (c.in_ok-form.ensures ∙ ap (λ k. Found.gives (term_of k)) (sym c.in-Err.ensures.0))
    (ap (λ k. is_product (term_of k)) c.in-Err.ensures.0 ∙ c.in-Err.ensures.1) c.no_product.ensures

pub reduced_product-returns-in-Err-ask_more-clause-told : goal.reduced_product-returns-in-Err-ask_more-clause-told
reduced_product-returns-in-Err-ask_more-clause-told t c =
    reduced_asked_stops (entries_of c.args.signature.now) c.args.limit c.args.chain c.args.types.now c.in_ok-number.number (term_of c.args.ty) (term_of c.in_ok-form.form) (term_of c.in-Ok.a) (term_of c.in-Ok.b)
    c.in-Err-ask_more.stop (c.in_ok-number.ensures.deep ∙ ap (λ ts. depth (context_of ts)) c.as_slice.ensures) c.in_ok-form.ensures c.in-Ok.ensures c.in-Err-ask_more.ensures.told

pub reduced_product-returns-clause-told : goal.reduced_product-returns-clause-told
reduced_product-returns-clause-told t c =
    reduced_ends (entries_of c.args.signature.now) c.args.limit c.args.chain c.args.types.now c.in_ok-number.number (term_of c.args.ty) (term_of c.in_ok-form.form) c.in-Ok.a c.in-Ok.b
    (c.in_ok-number.ensures.deep ∙ ap (λ ts. depth (context_of ts)) c.as_slice.ensures) c.in_ok-form.ensures c.in-Ok.ensures c.in-Ok-ask_more.ensures.told

pub reduced_product-returns-clause-kept : goal.reduced_product-returns-clause-kept
reduced_product-returns-clause-kept t c = c.in-Ok-ask_more.ensures.kept

use Rattle.std.proofs.Common.{ap, ◌∙◌, arith}
use Rattle.lp_terms.specs.Term.{Lp}
use Rattle.lp_terms.specs.View.{term_of}
use Rattle.zm_logic.specs.Measure.{term_size, terms_size}
use Rattle.zm_logic.specs.View.{types_tree, term_tree, terms_tree}
use Rattle.lp_signature.specs.Names.{constant}
use Rattle.lp_signature.specs.Translation.{apply_types}
use Rattle.lp_signature.specs.Translation as translation
use Rattle.lp_signature.specs.View.{symbols_tree, scope_tree}
use Rattle.lp_signature.proofs.Spines.{terms_applied_more, term_size_at, application_tree}
use Rattle.lp_signature.proofs.translation.+translate_term.Goals as goal

pub apply_to_terms-translate_term-requires : goal.apply_to_terms-translate_term-requires
apply_to_terms-translate_term-requires t c =
    let within = term_size_at c.as_slice-term-items.result.now c.loop-term.term-index c.term-item.result c.loop-term-test.true in
    let one = ap (λ x. term_size (term_tree x)) c.term-item.is in
    let all = ap (λ x. terms_size (terms_tree x)) c.as_slice-term-items.ensures in
    (omega (arith, within, one, all, c.decreases), tt)

pub apply_to_terms-loop-term-preserved : goal.apply_to_terms-loop-term-preserved
apply_to_terms-loop-term-preserved t c =
    let symbols = symbols_tree c.args.symbols.now in
    let scope = scope_tree c.args.scope.now in
    terms_applied_more symbols scope (apply_types symbols scope 0 (Lp.const (constant symbols c.args.symbol.0)) (types_tree c.args.types.now))
    (term_of c.loop-term.applied) (term_of c.in_ok-argument.argument) (term_of c.in_ok-applied-2.applied) c.as_slice-term-items.result.now
    c.loop-term.term-index c.term-item.result c.loop-term-test.true c.in_ok-applied-2.ensures c.loop-term.invariant
    (c.in_ok-argument.ensures ∙ ap (λ x. translation.term_of symbols scope (term_tree x)) c.term-item.is)

pub translate_term-apply_to_terms-requires : goal.translate_term-apply_to_terms-requires
translate_term-apply_to_terms-requires t c =
    let whole = ap term_size (ap term_tree c.in-App.is ∙ application_tree c.in-App.symbol c.in-App.types c.in-App.terms) in
    (omega (arith, whole, c.decreases), tt)

use Rattle.std.proofs.Common.{◌+◌, refl, sym, ◌∙◌, ap, add-one, rules}
use Rattle.lp_terms.specs.View.{term_of}
use Rattle.lp_terms.specs.File.{occurs}
use Rattle.dk_printer.proofs.Terms.{application_is, abstraction_is, product_is}
use Rattle.dk_printer.proofs.Joined.{joined, stopped}
use Rattle.dk_printer.proofs.Texts.{part_pieces, application_text, abstraction_pieces, product_pieces, argument_text, behind_text}
use Rattle.dk_printer.proofs.term.+print.Goals as goal

pub print_argument-returns : goal.print_argument-returns
print_argument-returns g t c = joined _ c.write.ensures (search rules) c.print_part.ensures (argument_text _ _ _ c.is_compound-brackets.ensures)

pub print_behind-returns : goal.print_behind-returns
print_behind-returns g t c = joined _ c.write.ensures (search rules) c.print_term.ensures (behind_text c.args.arrow.now c.args.depth (c.args.depth + 1) (term_of c.args.term.now) (add-one c.args.depth))

pub print_domain-returns : goal.print_domain-returns
print_domain-returns g t c = joined _ c.write_binder_if.ensures (search rules) c.print_front.ensures refl

pub print_part-returns-in_err-print_term : goal.print_part-returns-in_err-print_term
print_part-returns-in_err-print_term g t c =
    stopped _ _ (joined _ c.write_if.ensures (search rules) c.print_term.ensures refl) (search rules) (search rules) (part_pieces c.args.brackets _)

pub print_part-returns : goal.print_part-returns
print_part-returns g t c =
    joined _ (joined _ c.write_if.ensures (search rules) c.print_term.ensures refl) (search rules) c.write_if-2.ensures (part_pieces c.args.brackets _)

pub print_term-returns-in_ok-print_front-in-App : goal.print_term-returns-in_ok-print_front-in-App
print_term-returns-in_ok-print_front-in-App g t c =
    let x = c.get in
    let y = c.get-in-App in
    let is = application_is c.args.term.now c.in-App.f c.in-App.a x.result.now y.result.now c.in-App.is x.ensures y.ensures in
    joined _ c.print_front.ensures (search rules) c.print_argument.ensures (application_text c.args.depth (term_of c.args.term.now) (term_of x.result.now) (term_of y.result.now) is)

pub print_term-returns-in_ok-print_domain-in-Abs : goal.print_term-returns-in_ok-print_domain-in-Abs
print_term-returns-in_ok-print_domain-in-Abs g t c =
    let x = c.get-in-Abs in
    let y = c.get-in-Abs-2 in
    let is = abstraction_is c.args.term.now c.in-Abs.a c.in-Abs.b x.result.now y.result.now c.in-Abs.is x.ensures y.ensures in
    joined _ c.print_domain.ensures (search rules) c.print_behind.ensures (abstraction_pieces c.args.depth (term_of c.args.term.now) (term_of x.result.now) (term_of y.result.now) is)

pub print_term-returns-in_err-print_domain-in-Abs : goal.print_term-returns-in_err-print_domain-in-Abs
print_term-returns-in_err-print_domain-in-Abs g t c =
    let x = c.get-in-Abs in
    let is = abstraction_is c.args.term.now c.in-Abs.a c.in-Abs.b x.result.now c.in-Abs.b c.in-Abs.is x.ensures refl in
    stopped _ _ c.print_domain.ensures (search rules) (search rules) (abstraction_pieces c.args.depth (term_of c.args.term.now) (term_of x.result.now) (term_of c.in-Abs.b) is)

pub print_term-returns-in_ok-print_domain-in-Prod : goal.print_term-returns-in_ok-print_domain-in-Prod
print_term-returns-in_ok-print_domain-in-Prod g t c =
    let x = c.get-in-Prod-2 in
    let y = c.get-in-Prod-3 in
    let is = product_is c.args.term.now c.in-Prod.a c.in-Prod.b x.result.now y.result.now c.in-Prod.is x.ensures y.ensures in
    let named = c.occurs-named.ensures ∙ ap (λ z. occurs 0 (term_of z)) (c.get-in-Prod.ensures ∙ sym y.ensures) in
    joined _ c.print_domain-in-Prod.ensures (search rules) c.print_behind-in-Prod.ensures
    (product_pieces c.args.depth (term_of c.args.term.now) (term_of x.result.now) (term_of y.result.now) c.occurs-named.result is named)

pub print_term-returns-in_err-print_domain-in-Prod : goal.print_term-returns-in_err-print_domain-in-Prod
print_term-returns-in_err-print_domain-in-Prod g t c =
    let x = c.get-in-Prod-2 in
    let is = product_is c.args.term.now c.in-Prod.a c.in-Prod.b x.result.now c.in-Prod.b c.in-Prod.is x.ensures refl in
    let named = c.occurs-named.ensures ∙ ap (λ z. occurs 0 (term_of z)) c.get-in-Prod.ensures in
    stopped _ _ c.print_domain-in-Prod.ensures (search rules) (search rules)
    (product_pieces c.args.depth (term_of c.args.term.now) (term_of x.result.now) (term_of c.in-Prod.b) c.occurs-named.result is named)

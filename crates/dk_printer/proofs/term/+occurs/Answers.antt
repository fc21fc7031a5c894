use Rattle.std.proofs.Common.{◌+◌, add-one}
use Rattle.lp_terms.specs.View.{term_of}
use Rattle.dk_printer.proofs.Terms.{abstraction_is, product_is}
use Rattle.dk_printer.proofs.Texts.{occurs_abstraction, occurs_product}
use Rattle.dk_printer.proofs.term.+occurs.Goals as goal

pub returns-in-Abs : goal.returns-in-Abs
returns-in-Abs t c =
    let x = c.get-in-Abs in
    let y = c.get-in-Abs-2 in
    let is = abstraction_is c.args.term.now c.in-Abs.a c.in-Abs.b x.result.now y.result.now c.in-Abs.is x.ensures y.ensures in
    occurs_abstraction c.args.index (c.args.index + 1) (term_of c.args.term.now) (term_of x.result.now) (term_of y.result.now)
    c.occurs-in-Abs.result c.occurs-in-Abs-2.result c.either-in-Abs.result is (add-one c.args.index)
    c.occurs-in-Abs.ensures c.occurs-in-Abs-2.ensures c.either-in-Abs.ensures

pub returns-in-Prod : goal.returns-in-Prod
returns-in-Prod t c =
    let x = c.get-in-Prod in
    let y = c.get-in-Prod-2 in
    let is = product_is c.args.term.now c.in-Prod.a c.in-Prod.b x.result.now y.result.now c.in-Prod.is x.ensures y.ensures in
    occurs_product c.args.index (c.args.index + 1) (term_of c.args.term.now) (term_of x.result.now) (term_of y.result.now)
    c.occurs-in-Prod.result c.occurs-in-Prod-2.result c.either-in-Prod.result is (add-one c.args.index)
    c.occurs-in-Prod.ensures c.occurs-in-Prod-2.ensures c.either-in-Prod.ensures

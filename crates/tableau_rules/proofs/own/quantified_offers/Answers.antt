-- The offer of a quantified formula, by the definition of its own offers.
use Rattle.std.proofs.Common.{◌≡◌, ◌<◌, ◌≤◌, OnOk, IfErr, sym, subst}
use Rattle.term_store.specs.declared.opening.Redex.TheVariants.{OfForm}
use Rattle.param_store.specs.Depth.{deepest}
use Rattle.param_store.specs.Fault.{IfDeepAt}
use Rattle.param_store.specs.View.{quantified_of}
use Rattle.tableau_rules.proofs.Shapes.{opened_answer, opened_before, numbered_after}
use Rattle.tableau_rules.proofs.own.quantified_offers.Goals as goal

pub returns-in-Some-clause-offers : goal.returns-in-Some-clause-offers
returns-in-Some-clause-offers c =
    let s = c.args.store.now in
    let made = c.opened_offers.ensures in
    opened_answer s c.opened_offers.new.store made.kept c.shared.ensures c.args.params.now c.opened_offers.new.params c.args.form (quantified_of s c.in-Some.quantified) c.opened_offers.result c.requires.numbered c.requires.has c.requires.unsplit (sym c.in-Some.ensures.value) made.numbers made.offers

pub returns-in-Some-clause-numbered : goal.returns-in-Some-clause-numbered
returns-in-Some-clause-numbered c =
    let made = c.opened_offers.ensures in
    numbered_after c.args.store.now c.opened_offers.new.store made.kept c.args.params.now c.opened_offers.new.params c.args.form c.opened_offers.result c.requires.numbered c.requires.has made.numbers made.refused

pub returns-in-Some-clause-bounded : goal.returns-in-Some-clause-bounded
returns-in-Some-clause-bounded c =
    let s = c.args.store.now in
    let same = opened_before s c.shared.ensures c.args.params.now c.args.form (quantified_of s c.in-Some.quantified) c.requires.numbered c.requires.has c.requires.unsplit (sym c.in-Some.ensures.value) in
    subst (λ os. OnOk c.opened_offers.result (deepest os ≤ 2000)) (sym same) c.opened_offers.ensures.bounded

pub returns-in-Some-clause-deep : goal.returns-in-Some-clause-deep
returns-in-Some-clause-deep c =
    let s = c.args.store.now in
    let same = opened_before s c.shared.ensures c.args.params.now c.args.form (quantified_of s c.in-Some.quantified) c.requires.numbered c.requires.has c.requires.unsplit (sym c.in-Some.ensures.value) in
    subst (λ os. IfErr c.opened_offers.result (IfDeepAt (λ at. (at ≡ OfForm c.args.form) × (2000 < deepest os)))) (sym same) c.opened_offers.ensures.deep

-- The one offer, made of its children.
use Rattle.std.proofs.Common.{sym, subst}
use Rattle.term_store.specs.Trees.{form_of}
use Rattle.param_store.specs.RawOffers as raw
use Rattle.param_store.specs.View.{AreRaws}
use Rattle.tableau_rules.specs.Split.{children_of}
use Rattle.tableau_rules.proofs.Offered.{split_made}
use Rattle.tableau_rules.proofs.own.split_offers.Goals as goal

pub returns-clause-offers : goal.returns-clause-offers
returns-clause-offers c =
    let s = c.args.store.now in
    let t = c.children.new.store in
    let made = c.in_ok-children.ensures in
    let offers = split_made s t made.kept c.args.form c.requires.form c.args.split c.in_ok-children.children made.lists in
    subst (AreRaws t (raw.split_offers (form_of s c.args.form) (children_of s c.args.split))) (sym c.in_ok-only.ensures) offers

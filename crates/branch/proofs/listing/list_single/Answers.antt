use Rattle.std.proofs.Common.{None, map}
use Rattle.std.proofs.lemmas.Result.{err_from_is_err_and}
use Rattle.zm_logic.specs.View.{symbol_tree}
use Rattle.term_store.specs.declared.ids.FormId.{FormId}
use Rattle.branch.specs.BranchOffers.{Kind}
use Rattle.branch.proofs.Adding.{found_puts, single_adds, single_deep}
use Rattle.branch.proofs.Found.{lookup_stays}
use Rattle.branch.proofs.Sizing.{sizes_stay}
use Rattle.branch.proofs.Useful.{form_at_place}
use Rattle.branch.proofs.listing.list_single.Goals as goal

abbrev none : FormId
none = record { 0 = 0 }

pub single_offers-requires-clause-has : goal.single_offers-requires-clause-has
single_offers-requires-clause-has c = form_at_place c.args.store.now c.args.forms.now c.args.later none c.requires.within c.requires.has

pub put_all-requires-clause-has : goal.put_all-requires-clause-has
put_all-requires-clause-has c = (lookup_stays c.args.store.now c.single_offers.new.store c.in_ok-raws.ensures.kept c.args.forms.now c.args.lookup.now c.requires.has c.requires.lookup).has_found

pub put_all-requires-clause-has_raws : goal.put_all-requires-clause-has_raws
put_all-requires-clause-has_raws c = c.in_ok-raws.ensures.offers.3.has

pub put_all-requires-clause-knows : goal.put_all-requires-clause-knows
put_all-requires-clause-knows c = sizes_stay c.args.store.now c.single_offers.new.store c.in_ok-raws.ensures.kept c.args.listing.now.sizes c.requires.knows

pub returns-clause-adds : goal.returns-clause-adds
returns-clause-adds c =
    let u = c.args.store.now in
    let v = c.single_offers.new.store in
    let e = c.in_ok-raws.ensures.kept in
    let symbols = map symbol_tree c.args.symbols.now in
    let params = c.args.params.now in
    let forms = c.args.forms.now in
    let old = c.args.listing.now.offers in
    let new = c.put_all.new.listing.offers in
    let put = found_puts u v e symbols params forms c.requires.has c.requires.numbered c.args.lookup.now c.requires.lookup Kind.instance c.args.later None c.in_ok-raws.raws old new
    c.in_ok-put_all.ensures.listed in
    single_adds u v e symbols params forms c.requires.has c.requires.numbered c.args.later none c.requires.within c.in_ok-raws.raws old new
    c.in_ok-raws.ensures.offers c.in_ok-raws.ensures.bounded put

pub returns-in_err-raws-clause-deep : goal.returns-in_err-raws-clause-deep
returns-in_err-raws-clause-deep c =
    let p = err_from_is_err_and c.from_residual.result c.from_residual.ensures.1 in
    rw (p.1, p.2)
    (single_deep c.args.store.now c.single_offers.new.store c.in_err-raws.ensures.kept (map symbol_tree c.args.symbols.now) c.args.params.now c.args.forms.now
    c.requires.has c.requires.numbered c.args.later none c.requires.within c.in_err-raws.field-0.0 c.in_err-raws.ensures.deep)

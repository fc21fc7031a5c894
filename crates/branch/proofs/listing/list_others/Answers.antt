use Rattle.std.proofs.Common.{map}
use Rattle.std.proofs.lemmas.Result.{err_from_is_err_and, on_ok_weaker, IfErr-weaker}
use Rattle.zm_logic.specs.View.{symbol_tree}
use Rattle.term_store.proofs.Kept.{extends_more}
use Rattle.param_store.proofs.Stay.{forms_still}
use Rattle.branch.specs.Left.{PairsTo, OthersAt}
use Rattle.branch.specs.Listed.{IfStop}
use Rattle.branch.specs.Listing.{IsTooDeep}
use Rattle.branch.proofs.Found.{lookup_stays}
use Rattle.branch.proofs.Parted.{others_add, others_deep, single_stops}
use Rattle.branch.proofs.listing.list_others.Goals as goal

pub list_pairs-requires-clause-has : goal.list_pairs-requires-clause-has
list_pairs-requires-clause-has c = forms_still c.args.store.now c.list_single.new.store c.in_ok-list_single.ensures.kept c.args.forms.now c.requires.has

pub list_pairs-requires-clause-lookup : goal.list_pairs-requires-clause-lookup
list_pairs-requires-clause-lookup c =
    lookup_stays c.args.store.now c.list_single.new.store c.in_ok-list_single.ensures.kept c.args.forms.now c.args.lookup.now c.requires.has c.requires.lookup

pub list_pairs-requires-clause-numbered : goal.list_pairs-requires-clause-numbered
list_pairs-requires-clause-numbered c = forms_still c.args.store.now c.list_single.new.store c.in_ok-list_single.ensures.kept c.args.params.now c.requires.numbered

pub returns-clause-adds : goal.returns-clause-adds
returns-clause-adds c =
    on_ok_weaker c.list_pairs.result
    (λ h. others_add (map symbol_tree c.args.symbols.now) c.args.params.now c.args.forms.now c.args.store.now c.list_single.new.store c.list_pairs.new.store
    c.in_ok-list_single.ensures.kept c.args.later c.args.listing.now.offers c.list_single.new.listing.offers c.list_pairs.new.listing.offers
    c.in_ok-list_single.ensures.adds h)
    c.list_pairs.ensures.adds

pub returns-clause-deep : goal.returns-clause-deep
returns-clause-deep c =
    let symbols = map symbol_tree c.args.symbols.now in
    let params = c.args.params.now in
    let forms = c.args.forms.now in
    let j = c.args.later in
    let u = c.args.store.now in
    let v = c.list_single.new.store in
    let w = c.list_pairs.new.store in
    IfErr-weaker c.list_pairs.result (IfStop (IsTooDeep (PairsTo j j) v w symbols params forms)) (IfStop (IsTooDeep (OthersAt j) u w symbols params forms))
    (λ stop d. others_deep symbols params forms u v w c.in_ok-list_single.ensures.kept j c.args.listing.now.offers c.list_single.new.listing.offers
    c.in_ok-list_single.ensures.adds stop d)
    c.list_pairs.ensures.deep

pub returns-clause-kept : goal.returns-clause-kept
returns-clause-kept c = extends_more c.args.store.now c.list_single.new.store c.list_pairs.new.store c.in_ok-list_single.ensures.kept c.list_pairs.ensures.kept

pub returns-in_err-list_single-clause-deep : goal.returns-in_err-list_single-clause-deep
returns-in_err-list_single-clause-deep c =
    let p = err_from_is_err_and c.from_residual.result c.from_residual.ensures.1 in
    rw (p.1, p.2)
    (single_stops (map symbol_tree c.args.symbols.now) c.args.params.now c.args.forms.now c.args.store.now c.list_single.new.store c.args.later
    c.in_err-list_single.field-0.0 c.in_err-list_single.ensures.deep)

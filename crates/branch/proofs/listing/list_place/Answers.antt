use Rattle.std.proofs.Common.{map, sym, subst, OnOk, IfErr}
use Rattle.std.proofs.lemmas.Result.{err_from_is_err_and, on_ok_weaker, IfErr-weaker}
use Rattle.zm_logic.specs.View.{symbol_tree}
use Rattle.term_store.proofs.Kept.{extends_more}
use Rattle.param_store.specs.View.{HasForms}
use Rattle.param_store.proofs.Stay.{forms_still}
use Rattle.branch.specs.Left.{OthersAt, PlaceAt}
use Rattle.branch.specs.Listed.{IfStop}
use Rattle.branch.specs.Listing.{AddsPart, IsTooDeep}
use Rattle.branch.proofs.Found.{lookup_stays}
use Rattle.branch.proofs.Parted.{place_adds, place_deep, own_stops}
use Rattle.branch.proofs.listing.list_place.Goals as goal

pub list_others-requires-clause-has : goal.list_others-requires-clause-has
list_others-requires-clause-has c = forms_still c.args.store.now c.list_own.new.store c.in_ok-list_own.ensures.kept c.args.forms.now c.requires.has

pub list_others-requires-clause-lookup : goal.list_others-requires-clause-lookup
list_others-requires-clause-lookup c =
    lookup_stays c.args.store.now c.list_own.new.store c.in_ok-list_own.ensures.kept c.args.forms.now c.args.lookup.now c.requires.has c.requires.lookup

pub list_others-requires-clause-numbered : goal.list_others-requires-clause-numbered
list_others-requires-clause-numbered c =
    subst (HasForms c.list_own.new.store) (sym c.in_ok-list_own.ensures.params)
    (forms_still c.args.store.now c.list_own.new.store c.in_ok-list_own.ensures.kept c.args.params.now c.requires.numbered)

pub returns-clause-adds : goal.returns-clause-adds
returns-clause-adds c =
    let symbols = map symbol_tree c.args.symbols.now in
    let forms = c.args.forms.now in
    let j = c.args.later in
    let u = c.args.store.now in
    let v = c.list_own.new.store in
    let w = c.list_others.new.store in
    let l = c.args.listing.now.offers in
    let m = c.list_own.new.listing.offers in
    let k = c.list_others.new.listing.offers in
    let rest = subst (λ ps. OnOk c.list_others.result (AddsPart (OthersAt j) v w symbols ps forms m k)) c.in_ok-list_own.ensures.params c.list_others.ensures.adds in
    on_ok_weaker c.list_others.result
    (λ h. place_adds symbols c.args.params.now forms u v w c.in_ok-list_own.ensures.kept j l m k (c.in_ok-list_own.ensures.adds symbols) h) rest

pub returns-clause-deep : goal.returns-clause-deep
returns-clause-deep c =
    let symbols = map symbol_tree c.args.symbols.now in
    let params = c.args.params.now in
    let forms = c.args.forms.now in
    let j = c.args.later in
    let u = c.args.store.now in
    let v = c.list_own.new.store in
    let w = c.list_others.new.store in
    let rest = subst (λ ps. IfErr c.list_others.result (IfStop (IsTooDeep (OthersAt j) v w symbols ps forms))) c.in_ok-list_own.ensures.params c.list_others.ensures.deep in
    IfErr-weaker c.list_others.result (IfStop (IsTooDeep (OthersAt j) v w symbols params forms)) (IfStop (IsTooDeep (PlaceAt j) u w symbols params forms))
    (λ stop d. place_deep symbols params forms u v w c.in_ok-list_own.ensures.kept j c.args.listing.now.offers c.list_own.new.listing.offers
    (c.in_ok-list_own.ensures.adds symbols) stop d)
    rest

pub returns-clause-kept : goal.returns-clause-kept
returns-clause-kept c = extends_more c.args.store.now c.list_own.new.store c.list_others.new.store c.in_ok-list_own.ensures.kept c.list_others.ensures.kept

pub returns-in_err-list_own-clause-deep : goal.returns-in_err-list_own-clause-deep
returns-in_err-list_own-clause-deep c =
    let symbols = map symbol_tree c.args.symbols.now in
    let p = err_from_is_err_and c.from_residual.result c.from_residual.ensures.1 in
    rw (p.1, p.2)
    (own_stops symbols c.args.params.now c.args.forms.now c.args.store.now c.list_own.new.store c.args.later c.in_err-list_own.field-0.0
    (c.in_err-list_own.ensures.deep symbols))

use Rattle.std.proofs.Common.{None, get_or, map, ap, ◌∙◌}
use Rattle.std.proofs.lemmas.Result.{err_from_is_err_and}
use Rattle.term_store.specs.Trees.{form_of}
use Rattle.term_store.specs.declared.ids.FormId.{FormId}
use Rattle.term_store.proofs.Kept.{still_form}
use Rattle.param_store.specs.View.{forms_of, raw_of}
use Rattle.branch.specs.Ids.{kind_of}
use Rattle.branch.proofs.Adding.{found_puts, own_adds, own_deep}
use Rattle.branch.proofs.OfferKinds.{stands_at}
use Rattle.branch.proofs.Found.{lookup_stays}
use Rattle.branch.proofs.Sizing.{sizes_stay}
use Rattle.branch.proofs.Useful.{form_at_place}
use Rattle.branch.proofs.listing.list_own.Goals as goal

abbrev none : FormId
none = record { 0 = 0 }

pub own_raws-requires-clause-has : goal.own_raws-requires-clause-has
own_raws-requires-clause-has c = form_at_place c.args.store.now c.args.forms.now c.args.later none c.requires.within c.requires.has

pub own_raws-requires-clause-known : goal.own_raws-requires-clause-known
own_raws-requires-clause-known c = λ q.
    c.requires.known (form_of c.args.store.now (get_or c.args.forms.now c.args.later none))
    (stands_at c.args.store.now c.args.forms.now c.args.later none c.requires.within) q

pub own_kind-requires : goal.own_kind-requires
own_kind-requires c =
    let i = get_or c.args.forms.now c.args.later none in
    record {
      has = still_form c.args.store.now c.own_raws.new.store c.in_ok-raws.ensures.kept i
          (form_at_place c.args.store.now c.args.forms.now c.args.later none c.requires.within c.requires.has);
    }

pub put_all-requires-clause-has : goal.put_all-requires-clause-has
put_all-requires-clause-has c = (lookup_stays c.args.store.now c.own_raws.new.store c.in_ok-raws.ensures.kept c.args.forms.now c.args.lookup.now c.requires.has c.requires.lookup).has_found

pub put_all-requires-clause-has_raws : goal.put_all-requires-clause-has_raws
put_all-requires-clause-has_raws c = c.in_ok-raws.ensures.offers.has

pub put_all-requires-clause-knows : goal.put_all-requires-clause-knows
put_all-requires-clause-knows c = sizes_stay c.args.store.now c.own_raws.new.store c.in_ok-raws.ensures.kept c.args.listing.now.sizes c.requires.knows

pub returns-clause-adds : goal.returns-clause-adds
returns-clause-adds c = λ symbols.
    let u = c.args.store.now in
    let v = c.own_raws.new.store in
    let e = c.in_ok-raws.ensures.kept in
    let params = c.args.params.now in
    let forms = c.args.forms.now in
    let j = c.args.later in
    let old = c.args.listing.now.offers in
    let new = c.put_all.new.listing.offers in
    let are = c.in_ok-raws.ensures.offers in
    let k = kind_of c.own_kind.result in
    let kind = c.own_kind.ensures (forms_of v params) (ap (map (raw_of v)) c.as_slice.ensures ∙ are.offers) in
    let put = found_puts u v e symbols params forms c.requires.has c.requires.numbered c.args.lookup.now c.requires.lookup k j None c.in_ok-raws.raws old new
    c.in_ok-put_all.ensures.listed in
    own_adds u v e symbols params forms c.requires.has c.requires.numbered j none c.requires.within c.in_ok-raws.raws old new are c.in_ok-raws.ensures.bounded k kind
    put

pub returns-in_err-raws-clause-deep : goal.returns-in_err-raws-clause-deep
returns-in_err-raws-clause-deep c = λ symbols.
    let p = err_from_is_err_and c.from_residual.result c.from_residual.ensures.1 in
    rw (p.1, p.2)
    (own_deep c.args.store.now c.own_raws.new.store c.in_err-raws.ensures.kept symbols c.args.params.now c.args.forms.now c.requires.has c.requires.numbered
    c.args.later none c.requires.within c.in_err-raws.field-0.0 c.in_err-raws.ensures.deep)

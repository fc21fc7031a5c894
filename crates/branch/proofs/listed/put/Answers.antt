use Rattle.std.proofs.Common.{◌≡◌, true, false, ap, sym, ◌∙◌}
use Rattle.std.proofs.lemmas.Result.{on_ok_weaker}
use Rattle.param_store.specs.View.{forms_of, lists_of, raw_of}
use Rattle.branch.specs.Ids.{kind_of}
use Rattle.branch.specs.Offers.{has_some}
use Rattle.branch.proofs.Useful.{left_out, listed_one}
use Rattle.branch.proofs.listed.put.Goals as goal

pub returns-then-has_some-clause-listed : goal.returns-then-has_some-clause-listed
returns-then-has_some-clause-listed c =
    let s = c.args.store.now in
    let b = forms_of s c.args.found.now in
    let p = c.args.place in
    let has : has_some b (lists_of s c.args.raw.children) ≡ true =
    ap (λ ls. has_some b (lists_of s ls)) (sym c.as_slice.ensures) ∙ (sym c.has_some.ensures ∙ c.if-has_some.true) in
    left_out b (kind_of p.kind) p.later p.earlier s c.args.listing.now.offers (raw_of s c.args.raw) has

pub returns-clause-listed : goal.returns-clause-listed
returns-clause-listed c =
    let s = c.args.store.now in
    let b = forms_of s c.args.found.now in
    let p = c.args.place in
    let lacks : has_some b (lists_of s c.args.raw.children) ≡ false =
    ap (λ ls. has_some b (lists_of s ls)) (sym c.as_slice.ensures) ∙ (sym c.has_some.ensures ∙ c.if-has_some.false) in
    on_ok_weaker c.push.result
    (λ pushed. listed_one b (kind_of p.kind) p.later p.earlier s c.args.listing.now.offers (raw_of s c.args.raw) lacks c.push.new.self c.in_ok-offer.offer pushed
    c.in_ok-offer.ensures.listed c.in_ok-offer.ensures.tree)
    c.push.ensures.ok

-- The offer, made of its parts.
use Rattle.std.proofs.Common.{Some, List, ap, sym, subst, ◌∙◌}
use Rattle.term_store.specs.declared.ids.FormId.{FormId}
use Rattle.param_store.specs.View.{quantified_of, raw_of, HasRaw}
use Rattle.param_store.proofs.Offers.{offer_of, with_has, with_made}
use Rattle.param_store.proofs.opening.opened.Goals as goal

pub returns-clause-has : goal.returns-clause-has
returns-clause-has c =
    let t = c.at_part.new.store in
    let made = c.in_ok-form.ensures in
    let has = with_has c.args.store.now t made.kept c.args.acted c.requires.acted c.args.with c.in_ok-form.form c.requires.part made.has in
    subst (λ (ids : List (List FormId)). HasRaw t (offer_of c.args.acted (Some c.args.with) ids)) (sym c.in_ok-children.ensures) has

pub returns-clause-offer : goal.returns-clause-offer
returns-clause-offer c =
    let t = c.at_part.new.store in
    let made = c.in_ok-form.ensures in
    let offer = with_made c.args.store.now t made.kept c.args.acted c.requires.acted (quantified_of c.args.store.now c.args.quantified) c.args.with c.in_ok-form.form c.requires.part made.tree in
    ap (λ (ids : List (List FormId)). raw_of t (offer_of c.args.acted (Some c.args.with) ids)) c.in_ok-children.ensures ∙ offer

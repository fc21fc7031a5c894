-- The formula and its parts stay while the part that it is opened with is made.
use Rattle.std.proofs.Common.{◌≡◌, ◌<◌, IfOk, IfErr, ap, subst, ◌∙◌}
use Rattle.zm_logic.specs.Tree.{Form, Opening}
use Rattle.zm_logic.specs.Measure.{depth}
use Rattle.term_store.specs.Trees.{form_of}
use Rattle.term_store.specs.Open.{part_of}
use Rattle.term_store.specs.declared.opening.Redex.TheVariants.{OfForm}
use Rattle.term_store.proofs.Kept.{still_form, kept_form}
use Rattle.param_store.specs.RawOffers as raw
use Rattle.param_store.specs.Fault.{IfDeepAt}
use Rattle.param_store.specs.View.{quantified_of, raw_of}
use Rattle.param_store.proofs.Stay.{quantified_still, quantified_stays}
use Rattle.tableau_rules.proofs.opening.own_opening.Goals as goal

at_part_same : {q p : raw.Quantified} {w v : Opening} → q ≡ p → w ≡ v → raw.at_part q w ≡ raw.at_part p v
at_part_same {q} {p} {w} {v} e k = ap (λ x. raw.at_part x w) e ∙ ap (raw.at_part p) k

opened_same : {f g : Form} {q p : raw.Quantified} {w v : Opening} → f ≡ g → q ≡ p → w ≡ v → raw.opened f q w ≡ raw.opened g p v
opened_same {f} {g} {q} {p} {w} {v} d e k = ap (λ x. raw.opened x q w) d ∙ ap (λ x. raw.opened g x w) e ∙ ap (raw.opened g p) k

pub opened-requires-clause-acted : goal.opened-requires-clause-acted
opened-requires-clause-acted c = still_form c.args.store.now c.own_part.new.store c.own_part.ensures.kept c.args.acted c.requires.acted

pub opened-requires-clause-has : goal.opened-requires-clause-has
opened-requires-clause-has c = quantified_still c.args.store.now c.own_part.new.store c.own_part.ensures.kept c.args.quantified c.requires.has

pub returns-clause-offer : goal.returns-clause-offer
returns-clause-offer c =
    let s = c.args.store.now in
    let m = c.own_part.new.store in
    let t = c.opened.new.store in
    let q = quantified_of s c.args.quantified in
    let form = kept_form s m c.own_part.ensures.kept c.args.acted c.requires.acted in
    let same = quantified_stays s m c.own_part.ensures.kept c.args.quantified c.requires.has in
    let with = c.in_ok-with.ensures.tree in
    let offer : raw.opened (form_of m c.args.acted) (quantified_of m c.args.quantified) (part_of m c.in_ok-with.with)
    ≡ raw.opened (form_of s c.args.acted) q (raw.own_part c.args.number q) = opened_same form same with in
    subst (λ o. IfOk c.opened.result (λ r. raw_of t r ≡ o)) offer c.opened.ensures.offer

pub returns-clause-deep : goal.returns-clause-deep
returns-clause-deep c =
    let s = c.args.store.now in
    let m = c.own_part.new.store in
    let same = quantified_stays s m c.own_part.ensures.kept c.args.quantified c.requires.has in
    subst (λ f. IfErr c.opened.result (IfDeepAt (λ at. (at ≡ OfForm c.args.acted) × (2000 < depth f)))) (at_part_same same c.in_ok-with.ensures.tree) c.opened.ensures.deep

use Rattle.std.proofs.Common.{map, ◌∙◌}
use Rattle.term_store.specs.Trees.{form_of}
use Rattle.param_store.specs.View.{quantified_of, raw_of}
use Rattle.branch.proofs.OfferKinds.{splits_kind, opens_kind}
use Rattle.branch.proofs.listing.own_kind.Goals as goal

pub returns-in-None : goal.returns-in-None
returns-in-None c = λ table e.
    let s = c.args.store.now in
    c.split_kind.ensures s ∙ splits_kind table (form_of s c.args.form) c.in-None.ensures.value (map (raw_of s) c.args.raws.now) e

pub returns-in-Some : goal.returns-in-Some
returns-in-Some c = λ table e.
    let s = c.args.store.now in
    c.opened_kind.ensures ∙ opens_kind (form_of s c.args.form) (quantified_of s c.in-Some.quantified) c.in-Some.ensures.value

use Rattle.std.proofs.Common.{◌≡◌, None, sym, subst}
use Rattle.branch.specs.Branch.{closing}
use Rattle.search.specs.Searched.{IsWhyOf}
use Rattle.search.proofs.Growing.{same_open, same_at, same_grown, deep_here}
use Rattle.search.proofs.run.stop.Goals as goal

pub stop_at-requires-clause-open : goal.stop_at-requires-clause-open
stop_at-requires-clause-open c =
    same_open c.args.tableau.now c.count_offers-counted.new.tableau c.kept.ensures c.kept-2.ensures c.count_offers-counted.ensures.same c.requires.open

pub stop_at-requires-clause-unclosed : goal.stop_at-requires-clause-unclosed
stop_at-requires-clause-unclosed c =
    same_at c.args.tableau.now c.count_offers-counted.new.tableau c.kept.ensures c.kept-2.ensures c.count_offers-counted.ensures.same (λ leaf. closing leaf.branch ≡ None) c.requires.unclosed

pub returns-in_err-why_of-in-Err-clause-open : goal.returns-in_err-why_of-in-Err-clause-open
returns-in_err-why_of-in-Err-clause-open c =
    same_open c.args.tableau.now c.count_offers-counted.new.tableau c.kept.ensures c.kept-2.ensures c.count_offers-counted.ensures.same c.requires.open

pub returns-in_err-why_of-in-Err-clause-unclosed : goal.returns-in_err-why_of-in-Err-clause-unclosed
returns-in_err-why_of-in-Err-clause-unclosed c =
    same_at c.args.tableau.now c.count_offers-counted.new.tableau c.kept.ensures c.kept-2.ensures c.count_offers-counted.ensures.same (λ leaf. closing leaf.branch ≡ None) c.requires.unclosed

pub returns-in_err-why_of-in-Err-clause-grown : goal.returns-in_err-why_of-in-Err-clause-grown
returns-in_err-why_of-in-Err-clause-grown c =
    same_grown c.args.tableau.now c.count_offers-counted.new.tableau c.kept.ensures c.kept-2.ensures c.count_offers-counted.ensures.same

pub returns-in-Ok-clause-open : goal.returns-in-Ok-clause-open
returns-in-Ok-clause-open c =
    same_open c.args.tableau.now c.count_offers-counted.new.tableau c.kept.ensures c.kept-2.ensures c.count_offers-counted.ensures.same c.requires.open

pub returns-in-Ok-clause-unclosed : goal.returns-in-Ok-clause-unclosed
returns-in-Ok-clause-unclosed c =
    same_at c.args.tableau.now c.count_offers-counted.new.tableau c.kept.ensures c.kept-2.ensures c.count_offers-counted.ensures.same (λ leaf. closing leaf.branch ≡ None) c.requires.unclosed

pub returns-in-Ok-clause-grown : goal.returns-in-Ok-clause-grown
returns-in-Ok-clause-grown c =
    same_grown c.args.tableau.now c.count_offers-counted.new.tableau c.kept.ensures c.kept-2.ensures c.count_offers-counted.ensures.same

pub returns-in_ok-why_of-in-Err-clause-checked : goal.returns-in_ok-why_of-in-Err-clause-checked
returns-in_ok-why_of-in-Err-clause-checked c =
    let u = c.count_offers-counted.new.tableau in
    let why = c.in_ok-why_of-in-Err.field-0 in
    deep_here c.args.steps u c.in-Err.stop why
    (same_at c.args.tableau.now u c.kept.ensures c.kept-2.ensures c.count_offers-counted.ensures.same (λ leaf. closing leaf.branch ≡ None) c.requires.unclosed)
    c.in-Err.ensures.stop
    (subst (λ s. IsWhyOf s c.in-Err.stop why) c.store.ensures c.in_ok-why_of-in-Err.ensures)

pub returns-in_ok-why_of-in-Err-clause-open : goal.returns-in_ok-why_of-in-Err-clause-open
returns-in_ok-why_of-in-Err-clause-open c =
    same_open c.args.tableau.now c.count_offers-counted.new.tableau c.kept.ensures c.kept-2.ensures c.count_offers-counted.ensures.same c.requires.open

pub returns-in_ok-why_of-in-Err-clause-unclosed : goal.returns-in_ok-why_of-in-Err-clause-unclosed
returns-in_ok-why_of-in-Err-clause-unclosed c =
    same_at c.args.tableau.now c.count_offers-counted.new.tableau c.kept.ensures c.kept-2.ensures c.count_offers-counted.ensures.same (λ leaf. closing leaf.branch ≡ None) c.requires.unclosed

pub returns-in_ok-why_of-in-Err-clause-grown : goal.returns-in_ok-why_of-in-Err-clause-grown
returns-in_ok-why_of-in-Err-clause-grown c =
    same_grown c.args.tableau.now c.count_offers-counted.new.tableau c.kept.ensures c.kept-2.ensures c.count_offers-counted.ensures.same

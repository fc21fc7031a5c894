use Rattle.std.proofs.Common.{◌≡◌, arith, length}
use Rattle.search.proofs.Growing.{at_leaf, leaf_short}
use Rattle.search.proofs.run.stop_at.Goals as goal

pub returns : goal.returns
returns c =
    let t = c.args.tableau.now in
    let l = c.requires.listed in
    let short = leaf_short t l.leaf c.kept.ensures l.is_current in
    let above = at_leaf t (λ leaf. leaf.above ≡ c.branch_steps.result) l.leaf c.branch_steps.ensures l.is_current in
    let n : length l.holds.0 ≡ c.args.offers = l.holds.2 in
    let z = c.if-offers-eq0.false in
    let y = c.if-branch_steps-eq-LONGEST.false in
    let w = c.requires.within in
    let x = c.if-steps.false in
    let s = c.steps.ensures in (
      record { leaf = l.leaf; is_current = l.is_current; holds = (l.holds.0, l.holds.1, omega arith) },
      record { leaf = l.leaf; is_current = l.is_current; holds = omega arith },
      omega arith,
    )

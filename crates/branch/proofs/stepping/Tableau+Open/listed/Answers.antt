use Rattle.std.proofs.Common.{◌≡◌, Some, sym, subst, rules}
use Rattle.branch.specs.Stepped.{AreOffersSeen}
use Rattle.branch.proofs.LeafListed.{offers_seen}
use Rattle.branch.proofs.stepping.Tableau+Open.listed.Goals as goal

pub returns : goal.returns
returns c =
    let here = c.unwrap-current.result.now in
    let p : c.self.inside.current ≡ Some here = search rules in
    let o = c.unwrap.result.now in
    let q : here.offered ≡ Some o = search rules in
    subst (AreOffersSeen c.args.self.now) (sym c.as_slice.ensures)
    (subst (λ z. AreOffersSeen z o.seen) c.self.view_is (offers_seen _ c.self.invariant here o p q))

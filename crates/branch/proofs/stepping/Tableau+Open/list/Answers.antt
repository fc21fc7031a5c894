use Rattle.std.proofs.Common.{◌≡◌, Some, is_some, false, map, ap, sym, subst, ◌∙◌, rules}
use Rattle.zm_logic.specs.View.{symbol_tree}
use Rattle.branch.specs.Listed.{IfStop}
use Rattle.branch.specs.Listing.{IsReady}
use Rattle.branch.specs.Stepped.{IsOpen}
use Rattle.branch.specs.Stepping.{AreOffersOf}
use Rattle.branch.proofs.LeafListed.{ready, none_of, StopsFor, listing_kept, stopped_kept, stopped_deep}
use Rattle.branch.proofs.States.{open_some}
use Rattle.branch.proofs.stepping.Tableau+Open.list.Goals as goal

pub unwrap-current-requires : goal.unwrap-current-requires
unwrap-current-requires c =
    let o = open_some _ c.self.invariant (subst IsOpen (sym c.self.view_is) c.requires) in
    c.as_mut.ensures.variant ∙ ap is_some o.1

pub offers_of-requires : goal.offers_of-requires
offers_of-requires c =
    let here = c.unwrap-current.result.now in
    let p : c.self.inside.current ≡ Some here = search rules in
    record { ready = subst (IsReady c.self.inside.store c.self.inside.params) (sym c.as_slice.ensures) (ready _ c.self.invariant here p) }

pub invariant_of-self-in-Err : goal.invariant_of-self-in-Err
invariant_of-self-in-Err c =
    let here = c.unwrap-current.result.now in
    let p : c.self.inside.current ≡ Some here = search rules in
    let q : is_some here.offered ≡ false = search rules in
    stopped_kept _ c.self.invariant here p c.offers_of.new.store c.in-Err.ensures.kept c.offers_of.new.params c.in-Err.ensures.params (none_of here.offered q)

pub returns-in-Err-clause-stop : goal.returns-in-Err-clause-stop
returns-in-Err-clause-stop c =
    let here = c.unwrap-current.result.now in
    let p : c.self.inside.current ≡ Some here = search rules in
    let q : is_some here.offered ≡ false = search rules in
    stopped_deep _ c.self.invariant here p c.offers_of.new.store c.in-Err.ensures.kept c.offers_of.new.params c.in-Err.ensures.params (none_of here.offered q) c.in-Err.stop
    (subst (λ fs. IfStop (StopsFor (map symbol_tree c.self.inside.symbols) c.offers_of.new.store c.offers_of.new.params fs) c.in-Err.stop) c.as_slice.ensures c.in-Err.ensures.deep)

pub invariant_of-self-2 : goal.invariant_of-self-2
invariant_of-self-2 c =
    let here = c.unwrap-current.result.now in
    let p : c.self.inside.current ≡ Some here = search rules in
    listing_kept _ c.self.invariant here p c.offers_of.new.store c.in-Ok.ensures.kept c.offers_of.new.params c.in-Ok.ensures.params c.in-Ok.offered
    (subst (λ fs. AreOffersOf c.offers_of.new.store (map symbol_tree c.self.inside.symbols) c.offers_of.new.params fs c.in-Ok.offered) c.as_slice.ensures c.in-Ok.ensures.offers)

use Rattle.std.proofs.Common.{◌≡◌, get_or, rules}
use Rattle.branch.proofs.OpenSteps.{open_pushed}
use Rattle.branch.proofs.stepping.open_children.Goals as goal

pub loop-place-preserved : goal.loop-place-preserved
loop-place-preserved c =
    let r = c.as_slice.result.now in
    let f = c.as_slice-in-loop-place.result.now in
    let i = c.loop-place.place in
    let p : r ≡ get_or c.args.raw.now i r = search rules in
    let q : f ≡ get_or c.args.normal.now i f = search rules in
    open_pushed c.loop-place.children.items c.push.new.self.items c.in_ok-open_child.field-0 i c.args.raw.now c.args.normal.now r f c.loop-place-test.true c.requires
    c.loop-place.invariant c.in_ok-open_child.ensures p q c.in_ok-push.ensures.items

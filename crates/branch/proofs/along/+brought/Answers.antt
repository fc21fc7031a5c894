use Rattle.std.proofs.Common.{◌≡◌, ◌-◌, ◌==◌, true, false, length, take, drop, ap, sym, ◌∙◌, Some, None, slice_index_or}
use Rattle.branch.specs.Ids.{Child, node_ids, child_ids}
use Rattle.branch.specs.Path.{child_at}
use Rattle.branch.proofs.Places.{child_opens, first_place, brought_last, brought_below, brought_none}
use Rattle.branch.proofs.along.+brought.Goals as goal

pub returns-then-is_empty : goal.returns-then-is_empty
returns-then-is_empty t c =
    let d = c.in-Some.child.now in
    let p = c.args.path.now in
    let i = slice_index_or p 0 0 in
    let is = take (length p - 1) (drop 1 p) in
    let n = node_ids c.args.node.now in
    let x : Child = record { raw = d.raw; normal = d.normal; node = node_ids d.node } in
    let e : Some (child_ids d) ≡ child_at i n = c.in-Some.ensures in
    let f : child_at i n ≡ Some x = sym e ∙ ap Some (child_opens d) in
    let g : c.as_slice.result.now ≡ d.normal = c.as_slice.ensures in
    let h : true ≡ (length is == 0) = c.if-is_empty.ensures in
    g ∙ sym (brought_last p i is n x (first_place p c.in-len1-up.len_at_least) f h)

pub returns-else-is_empty : goal.returns-else-is_empty
returns-else-is_empty t c =
    let d = c.in-Some.child.now in
    let p = c.args.path.now in
    let i = slice_index_or p 0 0 in
    let is = take (length p - 1) (drop 1 p) in
    let n = node_ids c.args.node.now in
    let x : Child = record { raw = d.raw; normal = d.normal; node = node_ids d.node } in
    let e : Some (child_ids d) ≡ child_at i n = c.in-Some.ensures in
    let f : child_at i n ≡ Some x = sym e ∙ ap Some (child_opens d) in
    let h : false ≡ (length is == 0) = c.if-is_empty.ensures in
    c.brought.ensures ∙ sym (brought_below p i is n x (first_place p c.in-len1-up.len_at_least) f h)

pub returns-in-None : goal.returns-in-None
returns-in-None t c =
    let p = c.args.path.now in
    let i = slice_index_or p 0 0 in
    let is = take (length p - 1) (drop 1 p) in
    let n = node_ids c.args.node.now in
    let e : None ≡ child_at i n = c.in-None.ensures in
    sym (brought_none p i is n (first_place p c.in-len1-up.len_at_least) (sym e))

use Rattle.std.proofs.Common.{◌≡◌, ◌-◌, ◌+◌, ◌<◌, ◌≤◌, ◌++◌, ◌∷◌, [], suc, length, take, drop, map, ap, sym, subst, ◌∙◌, slice_index_or, rules, arith}
use Rattle.branch.specs.declared.node.Node.TheFolds.{fold-roll-Node}
use Rattle.branch.specs.declared.node.Node.TheOpen as layer
use Rattle.branch.specs.declared.node.Node.TheViews.{rolls-Step}
use Rattle.branch.specs.Ids.{Node, Child, node_layer, child_layer, node_ids, child_ids, children_of}
use Rattle.branch.specs.Path.{child_in, next, IsAdded}
use Rattle.branch.proofs.Places.{first_place, first_within, first_child, step_within, next_step, added_inside, popped, added_behind, added_none}
use Rattle.branch.proofs.next.+add_next.Goals as goal

pub index-requires : goal.index-requires
index-requires t c =
    let cs = c.in-Step.children.items in
    let e : node_ids c.args.node.now ≡ Node.step c.in-Step.pick c.in-Step.kind c.in-Step.act (children_of (map child_ids cs)) =
    ap node_ids c.in-Step.is ∙ (ap node_ids (sym (rolls-Step c.in-Step.pick c.in-Step.kind c.in-Step.act c.in-Step.children))
    ∙ fold-roll-Node Node Child node_layer child_layer (layer.Step c.in-Step.pick c.in-Step.kind c.in-Step.act c.in-Step.children)) in
    let h = first_within _ _ cs (step_within c.args.path.now _ _ _ _ cs c.in-len1-up.len_at_least e c.requires) in
    omega (arith, h, c.in-Step.children.ok.0)

pub add_next-requires : goal.add_next-requires
add_next-requires t c =
    let cs = c.in-Step.children.items in
    let e : node_ids c.args.node.now ≡ Node.step c.in-Step.pick c.in-Step.kind c.in-Step.act (children_of (map child_ids cs)) =
    ap node_ids c.in-Step.is ∙ (ap node_ids (sym (rolls-Step c.in-Step.pick c.in-Step.kind c.in-Step.act c.in-Step.children))
    ∙ fold-roll-Node Node Child node_layer child_layer (layer.Step c.in-Step.pick c.in-Step.kind c.in-Step.act c.in-Step.children)) in
    (search rules, first_child _ _ cs c.index.result.now c.index.ensures (step_within c.args.path.now _ _ _ _ cs c.in-len1-up.len_at_least e c.requires))

pub returns-then-branch : goal.returns-then-branch
returns-then-branch t c =
    let cs = c.in-Step.children.items in
    let p = c.args.path.now in
    let i = slice_index_or p 0 0 in
    let is = take (length p - 1) (drop 1 p) in
    let d = c.index.result.now in
    let o = next is (node_ids d.node) in
    let e : node_ids c.args.node.now ≡ Node.step c.in-Step.pick c.in-Step.kind c.in-Step.act (children_of (map child_ids cs)) =
    ap node_ids c.in-Step.is ∙ (ap node_ids (sym (rolls-Step c.in-Step.pick c.in-Step.kind c.in-Step.act c.in-Step.children))
    ∙ fold-roll-Node Node Child node_layer child_layer (layer.Step c.in-Step.pick c.in-Step.kind c.in-Step.act c.in-Step.children)) in
    let w = first_within i is cs (step_within p _ _ _ _ cs c.in-len1-up.len_at_least e c.requires) in
    let n = next_step p i is (node_ids c.args.node.now) _ _ _ cs d (first_place p c.in-len1-up.len_at_least) e c.index.ensures w in
    let h : IsAdded c.push.new.self c.add_next.new.found o c.in_ok-add_next-in-Step.field-0 = c.in_ok-add_next-in-Step.ensures in
    let u : c.push.new.self ≡ c.args.found.now ++ i ∷ [] = c.in_ok-push-in-Step.ensures.ok in
    added_inside i c.args.found.now c.push.new.self c.add_next.new.found (next p (node_ids c.args.node.now)) o (child_in (suc i) (children_of (map child_ids cs))) n u
    (subst (λ b. IsAdded c.push.new.self c.add_next.new.found o b) c.if-branch.true h)

pub overflow_add-behind : goal.overflow_add-behind
overflow_add-behind t c =
    let cs = c.in-Step.children.items in
    let e : node_ids c.args.node.now ≡ Node.step c.in-Step.pick c.in-Step.kind c.in-Step.act (children_of (map child_ids cs)) =
    ap node_ids c.in-Step.is ∙ (ap node_ids (sym (rolls-Step c.in-Step.pick c.in-Step.kind c.in-Step.act c.in-Step.children))
    ∙ fold-roll-Node Node Child node_layer child_layer (layer.Step c.in-Step.pick c.in-Step.kind c.in-Step.act c.in-Step.children)) in
    let h = first_within _ _ cs (step_within c.args.path.now _ _ _ _ cs c.in-len1-up.len_at_least e c.requires) in
    omega (arith, h, c.in-Step.children.ok.0, c.in-Step.children.ok.1, c.in-Step.children.small)

pub returns-in_ok-push-in-Step-2 : goal.returns-in_ok-push-in-Step-2
returns-in_ok-push-in-Step-2 t c =
    let cs = c.in-Step.children.items in
    let p = c.args.path.now in
    let i = slice_index_or p 0 0 in
    let is = take (length p - 1) (drop 1 p) in
    let d = c.index.result.now in
    let o = next is (node_ids d.node) in
    let e : node_ids c.args.node.now ≡ Node.step c.in-Step.pick c.in-Step.kind c.in-Step.act (children_of (map child_ids cs)) =
    ap node_ids c.in-Step.is ∙ (ap node_ids (sym (rolls-Step c.in-Step.pick c.in-Step.kind c.in-Step.act c.in-Step.children))
    ∙ fold-roll-Node Node Child node_layer child_layer (layer.Step c.in-Step.pick c.in-Step.kind c.in-Step.act c.in-Step.children)) in
    let w = first_within i is cs (step_within p _ _ _ _ cs c.in-len1-up.len_at_least e c.requires) in
    let n = next_step p i is (node_ids c.args.node.now) _ _ _ cs d (first_place p c.in-len1-up.len_at_least) e c.index.ensures w in
    let h : IsAdded c.push.new.self c.add_next.new.found o c.in_ok-add_next-in-Step.field-0 = c.in_ok-add_next-in-Step.ensures in
    let u : c.push.new.self ≡ c.args.found.now ++ i ∷ [] = c.in_ok-push-in-Step.ensures.ok in
    let q = popped i c.args.found.now c.push.new.self c.add_next.new.found c.pop.new.self o c.pop.result u (subst (λ b. IsAdded c.push.new.self c.add_next.new.found o b) c.if-branch.false h) c.pop.ensures in
    let l : i + 1 < length cs = omega (arith, c.in-Step.children.ok.0) in
    added_behind i cs c.args.found.now _ (next p (node_ids c.args.node.now)) o n q.0 l (c.in_ok-push-in-Step-2.ensures.ok ∙ ap (λ xs. xs ++ (i + 1) ∷ []) q.1)

pub returns-else-behind-len : goal.returns-else-behind-len
returns-else-behind-len t c =
    let cs = c.in-Step.children.items in
    let p = c.args.path.now in
    let i = slice_index_or p 0 0 in
    let is = take (length p - 1) (drop 1 p) in
    let d = c.index.result.now in
    let o = next is (node_ids d.node) in
    let e : node_ids c.args.node.now ≡ Node.step c.in-Step.pick c.in-Step.kind c.in-Step.act (children_of (map child_ids cs)) =
    ap node_ids c.in-Step.is ∙ (ap node_ids (sym (rolls-Step c.in-Step.pick c.in-Step.kind c.in-Step.act c.in-Step.children))
    ∙ fold-roll-Node Node Child node_layer child_layer (layer.Step c.in-Step.pick c.in-Step.kind c.in-Step.act c.in-Step.children)) in
    let w = first_within i is cs (step_within p _ _ _ _ cs c.in-len1-up.len_at_least e c.requires) in
    let n = next_step p i is (node_ids c.args.node.now) _ _ _ cs d (first_place p c.in-len1-up.len_at_least) e c.index.ensures w in
    let h : IsAdded c.push.new.self c.add_next.new.found o c.in_ok-add_next-in-Step.field-0 = c.in_ok-add_next-in-Step.ensures in
    let u : c.push.new.self ≡ c.args.found.now ++ i ∷ [] = c.in_ok-push-in-Step.ensures.ok in
    let q = popped i c.args.found.now c.push.new.self c.add_next.new.found c.pop.new.self o c.pop.result u (subst (λ b. IsAdded c.push.new.self c.add_next.new.found o b) c.if-branch.false h) c.pop.ensures in
    let l : length cs ≤ i + 1 = omega (arith, c.in-Step.children.ok.0) in
    added_none i cs c.args.found.now c.pop.new.self (next p (node_ids c.args.node.now)) o n q.0 l q.1

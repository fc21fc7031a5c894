use Rattle.std.proofs.Common.{sym, subst, arith, rules, refl, ◌∙◌, ap}
use Rattle.branch.specs.Ids.{node_ids}
use Rattle.branch.specs.Path.{IsFirst, put}
use Rattle.branch.specs.declared.node.Node.{Node as Code}
use Rattle.branch.proofs.Places.{first_within, first_child, child_put}
use Rattle.branch.proofs.place.+put_at.Goals as goal

pub put_in-index_mut-child-requires : goal.put_in-index_mut-child-requires
put_in-index_mut-child-requires t c =
    let h = first_within c.args.place c.args.rest.now c.args.children.now.items c.requires in
    omega (arith, h, c.args.children.now.ok.0)

pub put_in-put_at-requires : goal.put_in-put_at-requires
put_in-put_at-requires t c =
    let d = c.index_mut-child.result.now in
    let h = first_child c.args.place c.args.rest.now c.args.children.now.items d c.index_mut-child.ensures.value c.requires in
    (search rules, subst (λ (n : Code). IsFirst c.args.rest.now (node_ids n)) (sym c.replace-node.ensures.value) h)

pub put_in-returns : goal.put_in-returns
put_in-returns t c =
    let d = c.index_mut-child.result.now in
    let x = node_ids c.args.new in
    child_put c.args.place c.args.rest.now c.args.children.now.items d _ x c.index_mut-child.ensures.value refl refl
    (c.put_at.ensures ∙ ap (λ (n : Code). put c.args.rest.now x (node_ids n)) c.replace-node.ensures.value)

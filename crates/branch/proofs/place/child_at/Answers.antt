use Rattle.std.proofs.Common.{◌≡◌, map, ap, sym, ◌∙◌, rules}
use Rattle.std.specs.Prelude.{slice_get}
use Rattle.std.specs.Option.{option_map, option_copied}
use Rattle.branch.specs.declared.node.Node.TheFolds.{fold-roll-Node}
use Rattle.branch.specs.declared.node.Node.TheOpen as layer
use Rattle.branch.specs.declared.node.Node.TheViews.{rolls-Step}
use Rattle.branch.specs.Ids.{Node, Child, node_layer, child_layer, node_ids, child_ids, children_of}
use Rattle.branch.specs.Path.{child_at}
use Rattle.branch.proofs.Places.{child_found}
use Rattle.branch.proofs.place.child_at.Goals as goal

pub returns-in-Step : goal.returns-in-Step
returns-in-Step c =
    let cs = c.in-Step.children.items in
    let e : node_ids c.args.node.now ≡ Node.step c.in-Step.pick c.in-Step.kind c.in-Step.act (children_of (map child_ids cs)) =
    ap node_ids c.in-Step.is ∙ (ap node_ids (sym (rolls-Step c.in-Step.pick c.in-Step.kind c.in-Step.act c.in-Step.children))
    ∙ fold-roll-Node Node Child node_layer child_layer (layer.Step c.in-Step.pick c.in-Step.kind c.in-Step.act c.in-Step.children)) in
    let f : option_copied c.at.result ≡ slice_get cs c.args.place = search rules in
    ap (option_map child_ids) f ∙ (child_found c.args.place cs ∙ ap (λ n. child_at c.args.place n) (sym e))

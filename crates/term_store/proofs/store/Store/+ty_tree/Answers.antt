-- The ids of the list are ids of the store, and their trees are less deep.
use Rattle.std.proofs.Common.{length, ap, sym, subst, ◌∙◌, arith}
use Rattle.zm_logic.specs.Measure.{types_depth}
use Rattle.zm_logic.specs.View.{types_tree}
use Rattle.term_store.specs.Node.{TypesBelow, types_at}
use Rattle.term_store.specs.Trees.{all_trees}
use Rattle.term_store.proofs.Loops.{type_below_at}
use Rattle.term_store.proofs.Stays.{type_depth_at_within, type_trees_more}
use Rattle.term_store.proofs.store.Store.+ty_tree.Goals as goal

pub ty_trees-ty_tree-requires : goal.ty_trees-ty_tree-requires
ty_trees-ty_tree-requires t c =
    let s = c.args.self.now in
    let ids = c.as_slice-id-items.result.now in
    let below = subst (TypesBelow (length s.types)) (sym c.as_slice-id-items.ensures) c.requires in
    let less = type_depth_at_within (all_trees s).types ids c.loop-id.id-index (record { 0 = 0 }) c.loop-id-test.true in
    let whole = ap (λ is. types_depth (types_at (all_trees s).types is)) c.as_slice-id-items.ensures in
    (omega (arith, less, whole, c.decreases), type_below_at (length s.types) ids below c.loop-id.id-index (record { 0 = 0 }) c.loop-id-test.true)

pub ty_trees-loop-id-preserved : goal.ty_trees-loop-id-preserved
ty_trees-loop-id-preserved t c =
    let more = type_trees_more (all_trees c.args.self.now).types c.as_slice-id-items.result.now c.loop-id.all c.loop-id.id-index (record { 0 = 0 }) c.in_ok-ty_tree.field-0
    c.loop-id-test.true c.loop-id.invariant c.in_ok-ty_tree.ensures in
    ap types_tree c.in_ok-push.ensures.ok ∙ more

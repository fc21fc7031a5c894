-- The ids of the list are ids of the store, and their trees are less deep.
use Rattle.std.proofs.Common.{length, ap, sym, subst, ◌∙◌, arith}
use Rattle.zm_logic.specs.Measure.{terms_depth}
use Rattle.zm_logic.specs.View.{terms_tree}
use Rattle.term_store.specs.Node.{TermsBelow, terms_at}
use Rattle.term_store.specs.Trees.{all_trees}
use Rattle.term_store.proofs.Loops.{term_below_at}
use Rattle.term_store.proofs.Stays.{term_depth_at_within, term_trees_more}
use Rattle.term_store.proofs.store.Store.+term_tree.Goals as goal

pub term_trees-term_tree-requires : goal.term_trees-term_tree-requires
term_trees-term_tree-requires t c =
    let s = c.args.self.now in
    let ids = c.as_slice-id-items.result.now in
    let below = subst (TermsBelow (length s.terms)) (sym c.as_slice-id-items.ensures) c.requires in
    let less = term_depth_at_within (all_trees s).terms ids c.loop-id.id-index (record { 0 = 0 }) c.loop-id-test.true in
    let whole = ap (λ is. terms_depth (terms_at (all_trees s).terms is)) c.as_slice-id-items.ensures in
    (omega (arith, less, whole, c.decreases), term_below_at (length s.terms) ids below c.loop-id.id-index (record { 0 = 0 }) c.loop-id-test.true)

pub term_trees-loop-id-preserved : goal.term_trees-loop-id-preserved
term_trees-loop-id-preserved t c =
    let more = term_trees_more (all_trees c.args.self.now).terms c.as_slice-id-items.result.now c.loop-id.all c.loop-id.id-index (record { 0 = 0 }) c.in_ok-term_tree.field-0
    c.loop-id-test.true c.loop-id.invariant c.in_ok-term_tree.ensures in
    ap terms_tree c.in_ok-push.ensures.ok ∙ more

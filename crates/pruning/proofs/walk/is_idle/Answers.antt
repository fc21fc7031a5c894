use Rattle.std.proofs.Common.{◌≡◌, false, ap, inl, inr, ◌∙◌}
use Rattle.branch.specs.Ids.{node_ids, tree_of}
use Rattle.branch.specs.Tableau.{is_skipped}
use Rattle.pruning.proofs.Walked.{idle_is, node_step, node_closed, node_open}
use Rattle.pruning.proofs.walk.is_idle.Goals as goal

pub returns-in-Step : goal.returns-in-Step
returns-in-Step c = λ h b f e.
    let s = c.args.store.now in
    let entered : is_skipped (tree_of s (node_ids c.args.node.now)) ≡ false = elim c.in-Step.is [
      | inl x ↦ ap (λ n. is_skipped (tree_of s (node_ids n))) x.4 ∙ ap (λ n. is_skipped (tree_of s n)) (node_step x.0 x.1 x.2 x.3)
      | inr x ↦ elim x [
        | inl y ↦ ap (λ n. is_skipped (tree_of s (node_ids n))) y.1 ∙ ap (λ n. is_skipped (tree_of s n)) (node_closed y.0)
        | inr y ↦ ap (λ n. is_skipped (tree_of s (node_ids n))) y ∙ ap (λ n. is_skipped (tree_of s n)) node_open
      ]
    ] in
    idle_is s (node_ids c.args.node.now) b f c.args.fresh.now c.args.uses.now c.is_apart.result h entered e c.is_apart.ensures

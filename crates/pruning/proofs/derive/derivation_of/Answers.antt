use Rattle.std.proofs.Common.{◌≡◌, ◌∙◌, ap, sym, subst}
use Rattle.std.proofs.lemmas.Result.{IfOk-weaker}
use Rattle.zm_logic.specs.View.{problem_tree}
use Rattle.rule_select.specs.View.{selection_tree}
use Rattle.sequent_proof.specs.Tree as plain
use Rattle.sequent_proof.specs.View.{tree_of}
use Rattle.pruning.specs.Started.{end_sequent}
use Rattle.pruning.proofs.Kept.{started_kept, started_adds}
use Rattle.pruning.proofs.derive.derivation_of.Goals as goal

pub with_tree-requires : goal.with_tree-requires
with_tree-requires c =
    let p = problem_tree c.args.problem.now in
    let s = selection_tree c.args.selection.now in
    subst (plain.IsKept p.symbols s.rules) (sym c.in_ok-tree.ensures)
    (started_kept c.args.tableau.now c.kept.ensures p s c.requires.started c.has_no_open_leaf.ensures)

pub returns-clause-end_sequent : goal.returns-clause-end_sequent
returns-clause-end_sequent c =
    let p = problem_tree c.args.problem.now in
    let s = selection_tree c.args.selection.now in
    IfOk-weaker c.with_tree.result _ (λ d. plain.added (tree_of d.tree) ≡ end_sequent p s)
    (λ d e. ap (λ x. plain.added (tree_of x)) e ∙ (ap plain.added c.in_ok-tree.ensures ∙ started_adds c.args.tableau.now c.kept.ensures p s c.requires.started))
    c.with_tree.ensures.tree

use Rattle.std.proofs.Common.{◌≡◌, ◌∙◌}
use Rattle.std.proofs.lemmas.Result.{IfOk-weaker}
use Rattle.param_store.specs.View.{forms_of}
use Rattle.branch.specs.Ids.{node_ids, tree_of}
use Rattle.sequent_proof.specs.View as proof
use Rattle.pruning.specs.Trees.{tableau_derivation}
use Rattle.pruning.proofs.Walked.{root_is}
use Rattle.pruning.proofs.derive.root_tree.Goals as goal

pub returns : goal.returns
returns c =
    let s = c.args.store.now in
    let given = forms_of s c.args.given.now in
    let normal = forms_of s c.args.normal.now in
    let n = tree_of s (node_ids c.args.node.now) in
    IfOk-weaker c.converted.result _ (λ t. proof.tree_of t ≡ tableau_derivation given normal n)
    (λ t e. e ∙ root_is given normal n (proof.tree_of c.in_ok-tree.tree) c.in_ok-tree.ensures) c.converted.ensures

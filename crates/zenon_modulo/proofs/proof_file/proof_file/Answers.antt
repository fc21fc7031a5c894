use Rattle.std.proofs.Common.{◌≡◌, IfOk, subst}
use Rattle.zm_logic.specs.View.{problem_tree}
use Rattle.rule_select.specs.View.{selection_tree}
use Rattle.lp_terms.specs.View.{entries_of}
use Rattle.sequent_proof.specs.View.{tree_of}
use Rattle.zenon_modulo.proofs.ProofFiles.{entries_are}
use Rattle.zenon_modulo.proofs.proof_file.proof_file.Goals as goal

pub returns : goal.returns
returns c =
    subst (λ es. IfOk c.goal_of.result (λ f. entries_of f ≡ es))
    (entries_are c.keeping_all_keeps_the_premises.ensures (problem_tree c.args.problem.now) (selection_tree c.args.selection.now) c.args.tableau.now
    (tree_of c.in_ok-derivation.derivation.tree) c.requires.kept c.requires.started c.kept.ensures c.in_ok-derivation.ensures.tree)
    c.goal_of.ensures

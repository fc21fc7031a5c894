use Rattle.std.proofs.Common.{◌≡◌, ◌≤◌, drop, length}
use Rattle.param_store.specs.View.{forms_of}
use Rattle.sequent_proof.specs.View.{tree_of}
use Rattle.pruning.specs.Walked.{conversions}
use Rattle.pruning.proofs.convert.all_converted.Given as goal

abbrev pub invariant-loop-place : goal.invariant-loop-place
invariant-loop-place l = record {
  tree : tree_of l.tree ≡ conversions (forms_of l.store (drop l.place l.raw)) (forms_of l.store (drop l.place l.normal)) (tree_of l.fn.tree);
  in_raw : l.place ≤ length l.raw;
  in_normal : l.place ≤ length l.normal;
}

abbrev pub decreases-loop-place : goal.decreases-loop-place
decreases-loop-place l = l.place

use Rattle.std.proofs.Common.{◌≡◌, [], map, take}
use Rattle.param_store.specs.View.{forms_of, HasForms}
use Rattle.branch.specs.Branch.{extend}
use Rattle.branch.proofs.start.root_forms.Given as goal

abbrev pub invariant-loop-root : goal.invariant-loop-root
invariant-loop-root l = record {
  added : forms_of l.store l.forms ≡ extend [] (forms_of l.store (map (λ r. r.normal) (take l.root-index l.roots)));
  has : HasForms l.store l.forms;
}

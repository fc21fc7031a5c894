use Rattle.std.proofs.Common.{◌≡◌, take}
use Rattle.param_store.specs.View.{forms_of}
use Rattle.branch.specs.Listed.{capped, forms_size}
use Rattle.branch.specs.Sizes.{KnowsSizes}
use Rattle.branch.proofs.listed.child_size.Given as goal

abbrev pub invariant-loop-form : goal.invariant-loop-form
invariant-loop-form l = record {
  sized : l.all ≡ capped (forms_size (forms_of l.store (take l.form-index l.child)));
  knows : KnowsSizes l.store l.kept;
}

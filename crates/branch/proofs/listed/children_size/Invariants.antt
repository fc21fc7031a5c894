use Rattle.std.proofs.Common.{◌≡◌, take}
use Rattle.param_store.specs.View.{lists_of}
use Rattle.branch.specs.Listed.{capped, lists_size}
use Rattle.branch.specs.Sizes.{KnowsSizes}
use Rattle.branch.proofs.listed.children_size.Given as goal

abbrev pub invariant-loop-child : goal.invariant-loop-child
invariant-loop-child l = record {
  sized : l.all ≡ capped (lists_size (lists_of l.store (take l.child-index l.children)));
  knows : KnowsSizes l.store l.kept;
}

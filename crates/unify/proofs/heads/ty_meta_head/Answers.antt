use Rattle.term_store.specs.Trees.{type_of}
use Rattle.unify.proofs.HeadSteps.{has_given_type, head_type_kept, head_type_given, head_type_found}
use Rattle.unify.proofs.heads.ty_meta_head.Goals as goal

pub loop-binding-preserved-in_default : goal.loop-binding-preserved-in_default
loop-binding-preserved-in_default c = record {
  has = c.loop-binding.invariant.has;
  tree = head_type_kept c.args.store.now c.args.made.now c.loop-binding.binding-index _ c.loop-binding-test.true (type_of c.args.store.now c.args.id)
      (type_of c.args.store.now c.loop-binding.head) c.loop-binding.meta c.loop-binding.invariant.tree c.loop-binding.invariant.is_meta c.in_default.ensures.none;
  is_meta = c.loop-binding.invariant.is_meta;
}

pub returns-in_default-ty_meta-clause-tree : goal.returns-in_default-ty_meta-clause-tree
returns-in_default-ty_meta-clause-tree c =
    head_type_found c.args.store.now c.args.made.now c.loop-binding.binding-index _ c.loop-binding-test.true (type_of c.args.store.now c.args.id)
    (type_of c.args.store.now c.loop-binding.head) c.loop-binding.meta c.loop-binding.invariant.tree c.loop-binding.invariant.is_meta
    c.in-Some.to c.in-Some.ensures.some c.in_default-ty_meta.ensures.none

pub loop-binding-preserved : goal.loop-binding-preserved
loop-binding-preserved c = record {
  has = has_given_type c.args.store.now c.args.made.now c.loop-binding.binding-index _ c.loop-binding-test.true c.loop-binding.meta
      c.in-Some.to c.requires.have c.in-Some.ensures.some;
  tree = head_type_given c.args.store.now c.args.made.now c.loop-binding.binding-index _ c.loop-binding-test.true (type_of c.args.store.now c.args.id)
      (type_of c.args.store.now c.loop-binding.head) c.loop-binding.meta c.loop-binding.invariant.tree c.loop-binding.invariant.is_meta
      c.in-Some.to c.in-Some.ensures.some;
  is_meta = c.in-Some-ty_meta.ensures.some;
}

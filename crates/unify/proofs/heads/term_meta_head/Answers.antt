use Rattle.term_store.specs.Trees.{term_of}
use Rattle.unify.proofs.HeadSteps.{has_given_term, head_term_kept, head_term_given, head_term_found}
use Rattle.unify.proofs.heads.term_meta_head.Goals as goal

pub loop-binding-preserved-in_default : goal.loop-binding-preserved-in_default
loop-binding-preserved-in_default c = record {
  has = c.loop-binding.invariant.has;
  has_type = c.loop-binding.invariant.has_type;
  tree = head_term_kept c.args.store.now c.args.made.now c.loop-binding.binding-index _ c.loop-binding-test.true (term_of c.args.store.now c.args.id)
      (term_of c.args.store.now c.loop-binding.head) c.loop-binding.meta.0 c.loop-binding.meta.1 c.loop-binding.invariant.tree c.loop-binding.invariant.is_meta
      c.shared.ensures c.requires.have c.loop-binding.invariant.has_type c.in_default.ensures.none;
  is_meta = c.loop-binding.invariant.is_meta;
}

pub returns-in_default-term_meta-clause-tree : goal.returns-in_default-term_meta-clause-tree
returns-in_default-term_meta-clause-tree c =
    head_term_found c.args.store.now c.args.made.now c.loop-binding.binding-index _ c.loop-binding-test.true (term_of c.args.store.now c.args.id)
    (term_of c.args.store.now c.loop-binding.head) c.loop-binding.meta.0 c.loop-binding.meta.1 c.loop-binding.invariant.tree c.loop-binding.invariant.is_meta
    c.in-Some.to c.in-Some.ensures.some c.in_default-term_meta.ensures.none

pub loop-binding-preserved : goal.loop-binding-preserved
loop-binding-preserved c = record {
  has = has_given_term c.args.store.now c.args.made.now c.loop-binding.binding-index _ c.loop-binding-test.true c.loop-binding.meta.0 c.loop-binding.meta.1
      c.in-Some.to c.requires.have c.in-Some.ensures.some;
  has_type = c.in-Some-term_meta.ensures.has;
  tree = head_term_given c.args.store.now c.args.made.now c.loop-binding.binding-index _ c.loop-binding-test.true (term_of c.args.store.now c.args.id)
      (term_of c.args.store.now c.loop-binding.head) c.loop-binding.meta.0 c.loop-binding.meta.1 c.loop-binding.invariant.tree c.loop-binding.invariant.is_meta
      c.in-Some.to c.in-Some.ensures.some;
  is_meta = c.in-Some-term_meta.ensures.some;
}

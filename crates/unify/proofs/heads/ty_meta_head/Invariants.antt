use Rattle.std.proofs.Common.{◌≡◌, take}
use Rattle.zm_logic.specs.Tree.{Ty}
use Rattle.term_store.specs.Trees.{HasType, type_of}
use Rattle.unify.specs.Binding.{head_type}
use Rattle.unify.specs.View.{latest}
use Rattle.unify.proofs.heads.ty_meta_head.Given as goal

-- the head under the bindings so far, a metavariable
abbrev pub invariant-loop-binding : goal.invariant-loop-binding
invariant-loop-binding l = record {
  has : HasType l.store l.head;
  tree : type_of l.store l.head ≡ head_type (latest l.store (take l.binding-index l.made)) (type_of l.store l.fn.id);
  is_meta : type_of l.store l.head ≡ Ty.meta l.meta;
}

use Rattle.std.proofs.Common.{◌≡◌, take}
use Rattle.zm_logic.specs.Tree.{Term}
use Rattle.term_store.specs.Trees.{HasType, HasTerm, type_of, term_of}
use Rattle.unify.specs.Binding.{head_term}
use Rattle.unify.specs.View.{latest}
use Rattle.unify.proofs.heads.term_meta_head.Given as goal

-- the head under the bindings so far, a metavariable
abbrev pub invariant-loop-binding : goal.invariant-loop-binding
invariant-loop-binding l = record {
  has : HasTerm l.store l.head;
  has_type : HasType l.store l.meta.1;
  tree : term_of l.store l.head ≡ head_term (latest l.store (take l.binding-index l.made)) (term_of l.store l.fn.id);
  is_meta : term_of l.store l.head ≡ Term.meta l.meta.0 (type_of l.store l.meta.1);
}

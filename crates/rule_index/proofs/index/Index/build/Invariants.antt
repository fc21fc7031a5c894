use Rattle.term_store.specs.Trees.{Extends}
use Rattle.rule_index.proofs.Rewritten.{SoFar}
use Rattle.rule_index.proofs.index.Index.build.Given as goal

abbrev pub invariant-loop-rule : goal.invariant-loop-rule
invariant-loop-rule l = record {
  kept : Extends l.fn.store l.store;
  shallow : SoFar l.rule-items l.rule-index;
}

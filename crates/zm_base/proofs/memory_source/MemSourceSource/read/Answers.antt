use Rattle.std.proofs.Common.{Some, sym, ◌∙◌, ap, arith}
use Rattle.zm_base.specs.Memory.{MemorySource}
use Rattle.zm_base.proofs.Joins.{front_read}
use Rattle.zm_base.proofs.memory_source.MemSourceSource.read.Goals as goal

pub returns-clause-got : goal.returns-clause-got
returns-clause-got c =
    ap (λ (s : MemorySource). Some s.left) (sym c.self.view_is) ∙ front_read _ _ _ _ _ _ c.deref-2.ensures.value (omega arith) c.copy_front-n.ensures.front

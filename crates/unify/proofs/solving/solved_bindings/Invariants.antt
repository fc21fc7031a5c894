use Rattle.unify.specs.View.{latest}
use Rattle.unify.specs.Solving.{KnowsSolved}
use Rattle.unify.proofs.Listed.{Listed}
use Rattle.unify.proofs.solving.solved_bindings.Given as goal

-- the bindings so far are solved, and none of them is too deep
abbrev pub invariant-loop-binding : goal.invariant-loop-binding
invariant-loop-binding l = record {
  listed : Listed l.fn.store l.made l.store l.binding-index l.all;
  knows : KnowsSolved l.store (latest l.store l.made) l.kept;
}

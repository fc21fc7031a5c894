use Rattle.sequent_proof.specs.Text.{indentation}
use Rattle.sequent_proof.specs.Writes.{Wrote}
use Rattle.sequent_proof.proofs.lines.print_indentation.Given as goal

-- the levels so far are written
abbrev pub invariant-loop-i : goal.invariant-loop-i
invariant-loop-i g l = Wrote g.K.Sink (indentation l._i) l.initial.sink l.sink

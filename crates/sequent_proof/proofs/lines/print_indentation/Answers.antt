use Rattle.std.proofs.Common.{rules}
use Rattle.sequent_proof.proofs.Joined.{went_on, broke_off}
use Rattle.sequent_proof.proofs.Lists.{indentation_more, indentation_and_rest}
use Rattle.sequent_proof.proofs.lines.print_indentation.Goals as goal

pub returns-in_err-write : goal.returns-in_err-write
returns-in_err-write g c =
    broke_off _ _ c.loop-i.invariant c.write.ensures (search rules) (search rules) (indentation_and_rest c.loop-i._i c.args.level c.loop-i-test.true)

pub loop-i-preserved : goal.loop-i-preserved
loop-i-preserved g c = went_on _ c.loop-i.invariant c.write.ensures (search rules) (indentation_more c.loop-i._i)

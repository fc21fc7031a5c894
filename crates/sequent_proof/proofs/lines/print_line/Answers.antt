use Rattle.std.proofs.Common.{rules, refl}
use Rattle.sequent_proof.proofs.Joined.{joined, stopped}
use Rattle.sequent_proof.proofs.Lists.{line_pieces}
use Rattle.sequent_proof.proofs.lines.print_line.Goals as goal

pub returns-in_err-write : goal.returns-in_err-write
returns-in_err-write g c =
    stopped _ _ (joined _ c.print_indentation.ensures (search rules) c.write.ensures refl) (search rules) (search rules)
    (line_pieces c.args.level c.args.name.now c.as_bytes.result.now c.as_bytes.ensures.value)

pub returns : goal.returns
returns g c =
    joined _ (joined _ c.print_indentation.ensures (search rules) c.write.ensures refl) (search rules) c.write-2.ensures
    (line_pieces c.args.level c.args.name.now c.as_bytes.result.now c.as_bytes.ensures.value)

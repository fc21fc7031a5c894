use Rattle.std.proofs.Common.{refl, rules}
use Rattle.dk_printer.proofs.Joined.{joined, stopped}
use Rattle.dk_printer.proofs.file.print_context.Goals as goal

pub returns-in_err-write : goal.returns-in_err-write
returns-in_err-write g c = stopped _ _ c.write.ensures (search rules) (search rules) refl

pub returns-in_err-print_bindings : goal.returns-in_err-print_bindings
returns-in_err-print_bindings g c =
    stopped _ _ (joined _ c.write.ensures (search rules) c.print_bindings.ensures refl) (search rules) (search rules) refl

pub returns : goal.returns
returns g c =
    joined _ (joined _ c.write.ensures (search rules) c.print_bindings.ensures refl) (search rules) c.write-2.ensures refl

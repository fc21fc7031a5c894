use Rattle.std.proofs.Common.{refl, rules}
use Rattle.dk_printer.proofs.Joined.{joined, stopped}
use Rattle.dk_printer.proofs.file.print_line.Goals as goal

pub returns-in_err-print_entry : goal.returns-in_err-print_entry
returns-in_err-print_entry g c = stopped _ _ c.print_entry.ensures (search rules) (search rules) refl

pub returns : goal.returns
returns g c = joined _ c.print_entry.ensures (search rules) c.write.ensures refl

use Rattle.std.proofs.Common.{refl, rules}
use Rattle.dk_printer.proofs.Joined.{joined, stopped}
use Rattle.dk_printer.proofs.file.print_ended.Goals as goal

pub returns-in_err-print_term : goal.returns-in_err-print_term
returns-in_err-print_term g c = stopped _ _ c.print_term.ensures (search rules) (search rules) refl

pub returns : goal.returns
returns g c = joined _ c.print_term.ensures (search rules) c.write.ensures refl

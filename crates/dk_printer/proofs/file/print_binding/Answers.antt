use Rattle.std.proofs.Common.{refl, rules}
use Rattle.dk_printer.proofs.Joined.{joined, stopped}
use Rattle.dk_printer.proofs.file.print_binding.Goals as goal

pub returns-in_err-write_binder : goal.returns-in_err-write_binder
returns-in_err-write_binder g c = stopped _ _ c.write_binder.ensures (search rules) (search rules) refl

pub returns : goal.returns
returns g c = joined _ c.write_binder.ensures (search rules) c.print_term.ensures refl

use Rattle.std.proofs.Common.{refl, rules}
use Rattle.dk_printer.proofs.Joined.{joined, stopped}
use Rattle.dk_printer.proofs.file.print_typed.Goals as goal

pub returns-in_err-write_typed_name : goal.returns-in_err-write_typed_name
returns-in_err-write_typed_name g c = stopped _ _ c.write_typed_name.ensures (search rules) (search rules) refl

pub returns : goal.returns
returns g c = joined _ c.write_typed_name.ensures (search rules) c.print_ended.ensures refl

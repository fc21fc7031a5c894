use Rattle.std.proofs.Common.{rules}
use Rattle.lp_terms.specs.View.{term_of}
use Rattle.dk_printer.proofs.Joined.{joined, stopped}
use Rattle.dk_printer.proofs.Texts.{declared_text}
use Rattle.dk_printer.proofs.file.print_declaration.Goals as goal

pub returns-in_err-write_if : goal.returns-in_err-write_if
returns-in_err-write_if g c =
    stopped _ _ c.write_if.ensures (search rules) (search rules) (declared_text c.args.name.now c.args.definable (term_of c.args.ty.now))

pub returns : goal.returns
returns g c =
    joined _ c.write_if.ensures (search rules) c.print_typed.ensures (declared_text c.args.name.now c.args.definable (term_of c.args.ty.now))

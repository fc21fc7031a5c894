use Rattle.std.proofs.Common.{refl, rules}
use Rattle.lp_terms.specs.View.{term_of}
use Rattle.dk_printer.proofs.Joined.{joined, stopped}
use Rattle.dk_printer.proofs.Texts.{defined_text}
use Rattle.dk_printer.proofs.file.print_definition.Goals as goal

pub returns-in_err-write : goal.returns-in_err-write
returns-in_err-write g c =
    stopped _ _ c.write.ensures (search rules) (search rules) (defined_text c.args.name.now (term_of c.args.ty.now) (term_of c.args.body.now))

pub returns-in_err-print_typed : goal.returns-in_err-print_typed
returns-in_err-print_typed g c =
    stopped _ _ (joined _ c.write.ensures (search rules) c.print_typed.ensures refl) (search rules) (search rules)
    (defined_text c.args.name.now (term_of c.args.ty.now) (term_of c.args.body.now))

pub returns : goal.returns
returns g c =
    joined _ (joined _ c.write.ensures (search rules) c.print_typed.ensures refl) (search rules) c.print_ended.ensures
    (defined_text c.args.name.now (term_of c.args.ty.now) (term_of c.args.body.now))

use Rattle.std.proofs.Common.{rules, ap, sym, ◌∙◌, ◌++◌, codes}
use Rattle.dk_printer.proofs.Joined.{joined, stopped}
use Rattle.dk_printer.proofs.file.write_typed_name.Goals as goal

pub returns-in_err-write : goal.returns-in_err-write
returns-in_err-write g c = stopped _ _ c.write.ensures (search rules) (search rules) (ap (λ w. w ++ codes " : ") (sym (c.as_bytes.ensures.value ∙ c.text.ensures)))

pub returns : goal.returns
returns g c = joined _ c.write.ensures (search rules) c.write-2.ensures (ap (λ w. w ++ codes " : ") (sym (c.as_bytes.ensures.value ∙ c.text.ensures)))

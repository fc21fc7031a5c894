use Rattle.std.proofs.Common.{refl, rules, arith}
use Rattle.dk_printer.proofs.Joined.{went_on, broke_off, ended}
use Rattle.dk_printer.proofs.Kept.{this_type_printable}
use Rattle.dk_printer.proofs.Loops.{next_binding, binding_and_rest, comma_and_rest, all_bindings}
use Rattle.dk_printer.proofs.file.print_bindings.Goals as goal

pub print_binding-requires : goal.print_binding-requires
print_binding-requires g c =
    this_type_printable c.args.context.now c.loop-ty.ty-index c.loop-ty.depth c.ty-item.result c.requires.printable c.loop-ty.invariant.depth c.loop-ty-test.true c.ty-item.is

pub loop-ty-preserved : goal.loop-ty-preserved
loop-ty-preserved g c = record {
  depth = omega (arith, c.loop-ty.invariant.depth);
  written = went_on _ (went_on _ c.loop-ty.invariant.written c.write_if.ensures (search rules) refl) c.print_binding.ensures (search rules)
      (next_binding c.args.context.now c.loop-ty.ty-index c.loop-ty.depth c.ty-item.result c.loop-ty.invariant.depth c.loop-ty-test.true c.ty-item.is);
}

pub returns-in_err-write_if : goal.returns-in_err-write_if
returns-in_err-write_if g c =
    broke_off _ _ c.loop-ty.invariant.written c.write_if.ensures (search rules) (search rules)
    (comma_and_rest c.args.context.now c.loop-ty.ty-index c.loop-ty.depth c.ty-item.result c.loop-ty.invariant.depth c.loop-ty-test.true c.ty-item.is)

pub returns-in_err-print_binding : goal.returns-in_err-print_binding
returns-in_err-print_binding g c =
    broke_off _ _ (went_on _ c.loop-ty.invariant.written c.write_if.ensures (search rules) refl) c.print_binding.ensures (search rules) (search rules)
    (binding_and_rest c.args.context.now c.loop-ty.ty-index c.loop-ty.depth c.ty-item.result c.loop-ty.invariant.depth c.loop-ty-test.true c.ty-item.is)

pub returns : goal.returns
returns g c = ended _ c.loop-ty.invariant.written (search rules) (all_bindings c.args.context.now c.loop-ty.ty-index c.loop-ty-test.false)

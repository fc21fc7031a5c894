use Rattle.std.proofs.Common.{rules, map}
use Rattle.zenon_modulo.proofs.Printed.{types_step}
use Rattle.zenon_modulo.proofs.names.+push_type.Goals as goal

pub push_types-loop-i-preserved : goal.push_types-loop-i-preserved
push_types-loop-i-preserved t c =
    types_step (map (λ s. s.name) c.args.symbols.now) c.args.text.now.items c.loop-i.text.items c.push_mark.new.text.items c.push_type.new.text.items
    c.args.types.now c.loop-i.i c.ty-item.result (search rules) c.loop-i.invariant c.in_ok-push_mark.ensures (search rules)

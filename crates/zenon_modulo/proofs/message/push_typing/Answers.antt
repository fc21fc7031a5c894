use Rattle.zenon_modulo.proofs.SymbolNames.{typing_told}
use Rattle.zenon_modulo.proofs.message.push_typing.Goals as goal

pub returns : goal.returns
returns c =
    typing_told c.args.refusal.now c.args.text.now.items c.push_at.new.text.items c.push_types.new.text.items c.fault_text.result.now c.as_slice.result.now
    c.push_types.result c.as_slice.ensures c.fault_text.ensures c.in_ok-push_at.ensures c.push_types.ensures

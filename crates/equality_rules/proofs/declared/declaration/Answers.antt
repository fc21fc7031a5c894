use Rattle.equality_rules.proofs.Places.{declared_at}
use Rattle.equality_rules.proofs.declared.declaration.Goals as goal

pub returns : goal.returns
returns c = declared_at c.args.symbols.now c.args.symbol.0 c.get.result c.if-symbol-eq0.false c.get.ensures.value

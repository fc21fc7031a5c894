use Rattle.tff_typing.proofs.States.{refuses}
use Rattle.tff_typing.proofs.typed.refusal_at.Goals as goal

pub returns : goal.returns
returns c =
    refuses c.args.statements.now c.args.number c.args.fault c.index-statements-number.result c.in_ok-place.place
    c.in_ok-symbols.symbols c.requires.within c.index-statements-number.is c.requires.halted.1 c.in_ok-symbols.ensures
    c.in_ok-place.ensures.0 c.in_ok-place.ensures.1

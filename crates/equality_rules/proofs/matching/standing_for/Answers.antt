use Rattle.std.proofs.Common.{sym, arith}
use Rattle.equality_rules.proofs.Standing.{standing_place, standing_none}
use Rattle.equality_rules.proofs.matching.standing_for.Goals as goal

pub returns-then-back-types : goal.returns-then-back-types
returns-then-back-types c = sym (standing_place c.args.types.now c.args.index _ (omega (arith, c.if-back-types.true)))

pub returns-else-back-types : goal.returns-else-back-types
returns-else-back-types c = sym (standing_none c.args.types.now c.args.index (omega (arith, c.if-back-types.false)))

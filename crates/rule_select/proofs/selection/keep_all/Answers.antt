use Rattle.std.proofs.Common.{arith}
use Rattle.rule_select.proofs.Numbers.{all_are_kept}
use Rattle.rule_select.proofs.selection.keep_all.Goals as goal

pub returns : goal.returns
returns c =
    all_are_kept c.args.problem.now c.problem.result.now c.new.result c.loop-premise.rule_of c.loop-premise._premise-index
    c.as_slice-premise-items.result.now c.problem.ensures.problem c.as_slice-premise-items.ensures c.new.ensures c.loop-premise.invariant
    (omega (arith, c.loop-premise-test.false))

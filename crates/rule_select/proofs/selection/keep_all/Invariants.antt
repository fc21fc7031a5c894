use Rattle.std.proofs.Common.{◌≡◌, None, map, take}
use Rattle.rule_select.proofs.selection.keep_all.Given as goal

abbrev pub invariant-loop-premise : goal.invariant-loop-premise
invariant-loop-premise l = l.rule_of ≡ map (λ p. None) (take l._premise-index l._premise-items)

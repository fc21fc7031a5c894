use Rattle.std.proofs.Common.{◌≡◌, ◌-◌, ◌^◌, min, map, take}
use Rattle.zm_logic.specs.View.{form_tree}
use Rattle.search.specs.Need as spec
use Rattle.search.proofs.measures.premises_weight.Given as goal

abbrev pub invariant-loop-premise : goal.invariant-loop-premise
invariant-loop-premise l = l.all ≡ min (spec.weights (map (λ premise. form_tree premise.form) (take l.premise-index l.premises))) (2 ^ 128 - 1)

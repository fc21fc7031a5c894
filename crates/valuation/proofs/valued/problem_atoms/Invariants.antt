use Rattle.std.proofs.Common.{◌≡◌, [], map, take, flat_map}
use Rattle.zm_logic.specs.View.{form_tree}
use Rattle.branch.specs.Branch.{extend}
use Rattle.valuation.specs.Valuation.{atoms}
use Rattle.valuation.proofs.valued.problem_atoms.Given as goal

abbrev pub invariant-loop-premise : goal.invariant-loop-premise
invariant-loop-premise l = map form_tree l.all ≡ extend [] (flat_map atoms (map (λ premise. form_tree premise.form) (take l.premise-index l.premise-items)))

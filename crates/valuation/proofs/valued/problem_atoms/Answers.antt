use Rattle.std.proofs.Common.{◌≡◌, ◌≤◌, ◌∙◌, ◌++◌, [], ◌∷◌, sym, ap, map, flat_map, take, length}
use Rattle.std.proofs.lemmas.List.{take_all}
use Rattle.zm_logic.specs.View.{form_tree, premise_tree}
use Rattle.branch.specs.Branch.{extend}
use Rattle.valuation.specs.Valuation.{atoms}
use Rattle.valuation.proofs.Parts.{more_atoms, all_atoms}
use Rattle.valuation.proofs.valued.problem_atoms.Goals as goal

pub loop-premise-preserved : goal.loop-premise-preserved
loop-premise-preserved c =
    c.in_ok-add_atoms.ensures
    ∙ (ap (λ b. extend b (atoms (form_tree c.premise-item.result.form))) c.loop-premise.invariant
    ∙ sym (more_atoms c.as_slice-premise-items.result.now c.loop-premise.premise-index c.premise-item.result c.loop-premise-test.true c.premise-item.is))

pub returns : goal.returns
returns c =
    let ps = c.as_slice-premise-items.result.now in
    let g = form_tree c.args.problem.now.conjecture in
    let done : length ps ≤ c.loop-premise.premise-index = c.loop-premise-test.false in
    let all : take c.loop-premise.premise-index ps ≡ ps = take_all c.loop-premise.premise-index ps done in
    c.in_ok-add_atoms-2.ensures
    ∙ (ap (λ b. extend b (atoms g)) c.loop-premise.invariant
    ∙ (ap (λ qs. extend (extend [] (flat_map atoms (map (λ premise. form_tree premise.form) qs))) (atoms g)) all
    ∙ (all_atoms ps g
    ∙ ap (λ qs. extend [] (flat_map atoms (map (λ premise. premise.form) (map premise_tree qs) ++ g ∷ []))) c.as_slice-premise-items.ensures)))

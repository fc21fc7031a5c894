use Rattle.std.proofs.Common.{◌≡◌, ◌∙◌, ap, map, filter}
use Rattle.std.proofs.lemmas.Result.{IfOk-weaker}
use Rattle.zm_logic.specs.View.{form_tree, problem_tree}
use Rattle.branch.specs.Stepped.{AtLeaf}
use Rattle.valuation.specs.Valuation as spec
use Rattle.valuation.specs.View.{valued_tree}
use Rattle.valuation.proofs.Standing.{same_values}
use Rattle.valuation.proofs.valued.valuation_of.Goals as goal

pub returns : goal.returns
returns c =
    let p = problem_tree c.args.problem.now in
    let at = c.in_ok-standing.ensures in
    let b = at.leaf.branch in
    let stand : map form_tree c.as_slice.result.now ≡ filter spec.is_atom b = ap (map form_tree) c.as_slice.ensures ∙ at.holds in
    let list : map form_tree c.as_slice-2.result.now ≡ spec.problem_atoms p = ap (map form_tree) c.as_slice-2.ensures ∙ (c.in_ok-atoms.ensures ∙ ap (λ q. spec.problem_atoms (problem_tree q)) c.problem.ensures.problem) in
    IfOk-weaker c.values_on.result
    (λ v. map valued_tree v ≡ map (spec.value_on (map form_tree c.as_slice.result.now)) (map form_tree c.as_slice-2.result.now))
    (λ v. AtLeaf c.args.tableau.now (λ leaf. map valued_tree v ≡ spec.valuation leaf.branch p))
    (λ v h. record {
      leaf = at.leaf;
      is_current = at.is_current;
      holds = h
          ∙ (ap (λ fs. map (spec.value_on fs) (map form_tree c.as_slice-2.result.now)) stand
          ∙ (ap (map (spec.value_on (filter spec.is_atom b))) list
          ∙ same_values b p));
    })
    c.values_on.ensures

use Rattle.std.proofs.Common.{ℕ, ◌≡◌, ◌+◌, ◌-◌, List, map, ap, sym, ◌∙◌, arith}
use Rattle.std.proofs.lemmas.Result.{on_ok_weaker}
use Rattle.zm_logic.specs.Tree.{Form}
use Rattle.zm_logic.specs.View.{form_tree}
use Rattle.sequent_proof.specs.View.{name_of}
use Rattle.lp_translation.specs.ProofOf.{as_bound, bound_by}
use Rattle.lp_translation.specs.View.{hypotheses_of}
use Rattle.lp_translation.proofs.BuildingDerivation.{turns}
use Rattle.lp_translation.proofs.derivation.bind_child.Goals as goal

pub returns-then-is_not_iff-clause-bound : goal.returns-then-is_not_iff-clause-bound
returns-then-is_not_iff-clause-bound c =
    let name = name_of c.args.name in
    let fs = map form_tree c.args.forms.now in
    let k : c.args.child - 1 + 1 ≡ c.args.child = omega (arith, c.if-child-gt0.true) in
    let same = turns name (c.args.child - 1) fs (sym c.is_not_iff.ensures ∙ c.if-is_not_iff.true)
    ∙ ap (λ (n : ℕ). as_bound name n fs) k in
    on_ok_weaker c.bind_turned.result
    (λ h. h ∙ ap (λ (gs : List Form). bound_by c.args.first gs (hypotheses_of c.args.facts.now.items)) same)
    (c.bind_turned.ensures.bound (c.args.child - 1))

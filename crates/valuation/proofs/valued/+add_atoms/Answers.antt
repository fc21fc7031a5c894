use Rattle.std.proofs.Common.{◌∙◌, ◌++◌, ap, map}
use Rattle.std.proofs.lemmas.Result.{IfOk-equal}
use Rattle.zm_logic.specs.View.{form_tree}
use Rattle.branch.specs.Branch.{extend}
use Rattle.valuation.specs.Valuation.{atoms}
use Rattle.valuation.proofs.Parts.{joined_atoms}
use Rattle.valuation.proofs.Parts.{extend_append}
use Rattle.valuation.proofs.valued.+add_atoms.Goals as goal

pub returns-in_ok-add_atoms-in-And : goal.returns-in_ok-add_atoms-in-And
returns-in_ok-add_atoms-in-And t c =
    let b = map form_tree c.args.all.now in
    let f = c.get-in-And.result.now in
    let g = c.get-in-And-2.result.now in
    let joined = joined_atoms c.args.form.now c.in-And.f c.in-And.g c.in-And.is in
    IfOk-equal _ _ _ _ c.add_atoms-in-And-2.ensures
    (ap (λ d. extend d (atoms (form_tree g))) c.in_ok-add_atoms-in-And.ensures
    ∙ (extend_append b (atoms (form_tree f)) (atoms (form_tree g))
    ∙ (ap (λ x. extend b (atoms (form_tree x) ++ atoms (form_tree g))) c.get-in-And.ensures
    ∙ (ap (λ x. extend b (atoms (form_tree c.in-And.f) ++ atoms (form_tree x))) c.get-in-And-2.ensures
    ∙ ap (extend b) joined))))

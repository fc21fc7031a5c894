use Rattle.std.proofs.Common.{◌≡◌, sym, subst, ◌∙◌}
use Rattle.zm_logic.specs.Tree.{Form}
use Rattle.zm_logic.specs.View.{form_tree}
use Rattle.term_store.proofs.Kept.{still_form, kept_form}
use Rattle.unify.specs.Unification.{AreAtomsOrEqualities}
use Rattle.unify.proofs.FormSteps.{if_found}
use Rattle.tree_cases.proofs.unifiers.of_forms.Goals as goal

alike_as : (x y f g : Form) → x ≡ f → y ≡ g → AreAtomsOrEqualities f g → AreAtomsOrEqualities x y
alike_as x y f g e h z = subst (λ a. AreAtomsOrEqualities a y) (sym e) (subst (AreAtomsOrEqualities f) (sym h) z)

pub unified_forms-requires-clause-has_right : goal.unified_forms-requires-clause-has_right
unified_forms-requires-clause-has_right c = still_form _ _ c.in_ok-left.ensures.kept c.in_ok-right.right c.in_ok-right.ensures.has

pub unified_forms-requires-clause-alike : goal.unified_forms-requires-clause-alike
unified_forms-requires-clause-alike c =
    let f = form_tree c.args.left.now in let g = form_tree c.args.right.now in
    let alike = if_found _ _ c.are_alike.result c.if-not-are_alike.false c.are_alike.ensures in
    let right = kept_form _ _ c.in_ok-left.ensures.kept c.in_ok-right.right c.in_ok-right.ensures.has ∙ c.in_ok-right.ensures.tree in
    alike_as _ _ f g c.in_ok-left.ensures.tree right alike

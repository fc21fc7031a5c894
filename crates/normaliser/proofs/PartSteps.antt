-- The next step is that of the parts, else that of the root.
use Rattle.std.proofs.Common.{◌≡◌, refl, List, Option, Some, None}
use Rattle.zm_logic.specs.Tree.{Form, Rule}
use Rattle.rule_index.specs.Matching.{or_else}
use Rattle.normaliser.specs.NextStep.{under, root_form, next_term, next_step}
use Rattle.normaliser.specs.Parts.{part_step}

joined : {A : Type 0} (x y z : Option A) → or_else x (or_else y z) ≡ or_else (or_else x y) z
joined None y z = refl
joined (Some a) y z = refl

pub parts_then_root : (rules : List Rule) (f : Form) → next_step rules f ≡ or_else (part_step rules f) (root_form rules f)
parts_then_root rules Form.truth = refl
parts_then_root rules Form.falsity = refl
parts_then_root rules (Form.atom p ts us) = refl
parts_then_root rules (Form.equal t a b) =
    joined (under (λ c. Form.equal t c b) (next_term rules a)) (under (Form.equal t a) (next_term rules b)) (root_form rules (Form.equal t a b))
parts_then_root rules (Form.negation f) = refl
parts_then_root rules (Form.binary c f g) =
    joined (under (λ h. Form.binary c h g) (next_step rules f)) (under (Form.binary c f) (next_step rules g)) (root_form rules (Form.binary c f g))
parts_then_root rules (Form.quantified q t f) = refl
parts_then_root rules (Form.quantified_types q f) = refl

-- Formulas without an equality.
use Rattle.std.specs.Prelude.{◌≡◌, Bool, true, false, ◌||◌, List, All}
use Rattle.zm_logic.specs.Tree.{Form}

abbrev pub holds_equality : Form → Bool
holds_equality Form.truth = false
holds_equality Form.falsity = false
holds_equality (Form.atom p ts us) = false
holds_equality (Form.equal t a b) = true
holds_equality (Form.negation f) = holds_equality f
holds_equality (Form.binary c f g) = holds_equality f || holds_equality g
holds_equality (Form.quantified q t f) = holds_equality f
holds_equality (Form.quantified_types q f) = holds_equality f

-- none of the formulas holds an equality
abbrev pub AreEqualityFree : List Form → Type 0
AreEqualityFree fs = All (λ f. holds_equality f ≡ false) fs

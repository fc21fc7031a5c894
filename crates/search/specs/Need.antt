-- How many Steps a problem without quantifiers and equality can need.
use Rattle.std.specs.Prelude.{ℕ, ◌+◌, ◌*◌, Bool, true, false, List, [], ◌∷◌}
use Rattle.zm_logic.specs.Tree.{Form, Connective}

abbrev pub connective_weight : Connective → ℕ
connective_weight Connective.conjunction = 2
connective_weight Connective.disjunction = 2
connective_weight Connective.implication = 2
connective_weight Connective.equivalence = 3

-- 1 for each negation, 2 for each conjunction, disjunction and implication, 3 for each equivalence
abbrev pub weight : Form → ℕ
weight Form.truth = 0
weight Form.falsity = 0
weight (Form.atom p ts us) = 0
weight (Form.equal t a b) = 0
weight (Form.negation f) = 1 + weight f
weight (Form.binary c f g) = connective_weight c + (weight f + weight g)
weight (Form.quantified q t f) = 0
weight (Form.quantified_types q f) = 0

-- How many branches a formula, or its negation (false), comes to: 1 for a literal; for an alpha formula the product over
-- the formulas of its child, for a beta formula the sum of these products over its children.
abbrev pub leaves_as : Bool → Form → ℕ
leaves_as v Form.truth = 1
leaves_as v Form.falsity = 1
leaves_as v (Form.atom p ts us) = 1
leaves_as v (Form.equal t a b) = 1
leaves_as true (Form.negation f) = leaves_as false f
leaves_as false (Form.negation f) = leaves_as true f
leaves_as true (Form.binary Connective.conjunction f g) = leaves_as true f * leaves_as true g
leaves_as false (Form.binary Connective.conjunction f g) = leaves_as false f + leaves_as false g
leaves_as true (Form.binary Connective.disjunction f g) = leaves_as true f + leaves_as true g
leaves_as false (Form.binary Connective.disjunction f g) = leaves_as false f * leaves_as false g
leaves_as true (Form.binary Connective.implication f g) = leaves_as false f + leaves_as true g
leaves_as false (Form.binary Connective.implication f g) = leaves_as true f * leaves_as false g
leaves_as true (Form.binary Connective.equivalence f g) = leaves_as true f * leaves_as true g + leaves_as false f * leaves_as false g
leaves_as false (Form.binary Connective.equivalence f g) = leaves_as true f * leaves_as false g + leaves_as false f * leaves_as true g
leaves_as v (Form.quantified q t f) = 1
leaves_as v (Form.quantified_types q f) = 1

abbrev pub leaves : Form → ℕ
leaves f = leaves_as true f

abbrev pub weights : List Form → ℕ
weights [] = 0
weights (f ∷ fs) = weight f + weights fs

abbrev pub all_leaves : List Form → ℕ
all_leaves [] = 1
all_leaves (f ∷ fs) = leaves f * all_leaves fs

-- the Steps that formulas can need, which are refuted together
abbrev pub need : List Form → ℕ
need fs = weights fs * all_leaves fs

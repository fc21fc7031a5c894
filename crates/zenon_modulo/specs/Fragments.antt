-- The problems that are built, those without equality; and among them those without quantifiers.
use Rattle.std.specs.Prelude.{Bool, true, false, not, ◌&&◌, List}
use Rattle.std.specs.List.{list_all, list_any}
use Rattle.zm_logic.specs.Tree.{Form, Premise, Problem}
use Rattle.branch.specs.EqualityFree.{holds_equality}

-- some premise holds an equality
abbrev pub any_equality : List Premise → Bool
any_equality premises = list_any (λ premise. holds_equality premise.form) premises

-- a problem that is built: no premise holds an equality, nor does the conjecture
abbrev pub is_built : Problem → Bool
is_built p = not (any_equality p.premises) && not (holds_equality p.conjecture)

-- a formula without quantifiers and equalities
abbrev pub is_plain : Form → Bool
is_plain Form.truth = true
is_plain Form.falsity = true
is_plain (Form.atom p ts us) = true
is_plain (Form.equal t a b) = false
is_plain (Form.negation f) = is_plain f
is_plain (Form.binary c f g) = is_plain f && is_plain g
is_plain (Form.quantified q t f) = false
is_plain (Form.quantified_types q f) = false

-- premises of such formulas
abbrev pub are_plain : List Premise → Bool
are_plain premises = list_all (λ premise. is_plain premise.form) premises

-- a problem of such formulas
abbrev pub is_quantifier_free : Problem → Bool
is_quantifier_free p = are_plain p.premises && is_plain p.conjecture

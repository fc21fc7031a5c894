-- Rules that a normal form can be taken by.
use Rattle.std.specs.Prelude.{ℕ, ◌<◌, ◌≡◌, true, List, [], ◌∷◌, length}
use Rattle.zm_logic.specs.Tree.{Term, Binder, Side, Rule}
use Rattle.zm_logic.specs.Laws.{HasNoParameterIn}
use Rattle.zm_logic.specs.Index.{side_has}
use Rattle.rule_index.specs.Matching.{IsKinded}

-- both sides are terms, the left one an application, or both are formulas
abbrev pub AreSides : Side → Side → Type 0
AreSides (Side.of_term (Term.app f ts us)) (Side.of_term b) = Unit {0}
AreSides (Side.of_form f) (Side.of_form g) = Unit {0}
AreSides _ _ = ⊥

-- the left side of a rule: each index is that of a binder of its kind, and each binder occurs
pub record IsLeft (bs : List Binder) (left : Side) : Type 0 where
  pub kinded : IsKinded bs left
  pub bound : (i : ℕ) → i < length bs → side_has i left ≡ true

pub record IsUsable (r : Rule) : Type 0 where
  pub sides : AreSides r.left r.right
  pub left : IsLeft r.binders r.left
  pub right : IsKinded r.binders r.right
  pub free_left : HasNoParameterIn r.left
  pub free_right : HasNoParameterIn r.right

abbrev pub AreUsable : List Rule → Type 0
AreUsable [] = Unit {0}
AreUsable (r ∷ rules) = IsUsable r × AreUsable rules

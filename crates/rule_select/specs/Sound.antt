-- What each rule of a selection of a typed problem is.
use Rattle.std.specs.Prelude.{ℕ, ◌<◌, ◌≡◌, true, List, length}
use Rattle.zm_logic.specs.Tree.{Term, Form, Side, Rule, Symbol}
use Rattle.zm_logic.specs.Index.{IsClosedTerm, IsClosed, side_has}
use Rattle.zm_logic.specs.Problem.{IsTypedRule}
use Rattle.zm_logic.specs.Laws.{HasNoParameterIn}

-- the side has no loose index under k binders
abbrev pub IsClosedSide : ℕ → Side → Type 0
IsClosedSide k (Side.of_term a) = IsClosedTerm k a
IsClosedSide k (Side.of_form f) = IsClosed k f

-- the side is an application, an atom or an equality
abbrev pub IsPattern : Side → Type 0
IsPattern (Side.of_term (Term.app f ts us)) = Unit {0}
IsPattern (Side.of_form (Form.atom p ts us)) = Unit {0}
IsPattern (Side.of_form (Form.equal t a b)) = Unit {0}
IsPattern _ = ⊥

-- a sound rule: its sides are equal, or equivalent, in a well typed formula under its binders, they have no index past
-- these and no parameter, and its left side is an application, an atom or an equality in which each binder occurs
pub record IsSound (symbols : List Symbol) (r : Rule) : Type 0 where
  pub typed : IsTypedRule symbols r
  pub left_closed : IsClosedSide (length r.binders) r.left
  pub right_closed : IsClosedSide (length r.binders) r.right
  pub left_parameters : HasNoParameterIn r.left
  pub right_parameters : HasNoParameterIn r.right
  pub pattern : IsPattern r.left
  pub bound : (i : ℕ) → i < length r.binders → side_has i r.left ≡ true

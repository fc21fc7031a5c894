-- What makes a reading of a premise a rewrite rule.
use Rattle.std.specs.Prelude.{ℕ, ◌<◌, ◌≡◌, ◌≢◌, ◌⊎◌, true, List, [], ◌∷◌, ◌++◌, length}
use Rattle.zm_logic.specs.Tree.{Ty, Term, Opening, Binder, Side, Rule, Role, Premise}
use Rattle.zm_logic.specs.Opening.{type_instance, side_instance}
use Rattle.zm_logic.specs.Index.{side_has}
use Rattle.zm_logic.specs.Rewriting.{IsRedex}
use Rattle.rule_select.specs.Reading.{readings}
use Rattle.rule_select.specs.Part.{IsPart}

-- a parameter for each of the binders that follow those with the given parameters: its number is the binder's index, and
-- it has the binder's type at the parameters before it
abbrev pub parameters_after : List Opening → List Binder → List Opening
parameters_after os [] = []
parameters_after os (Binder.of_type ∷ bs) =
    Opening.of_type (Ty.param (length bs)) ∷ parameters_after (os ++ Opening.of_type (Ty.param (length bs)) ∷ []) bs
parameters_after os (Binder.of_term t ∷ bs) =
    Opening.of_term (Term.eps (length bs) (type_instance os t))
    ∷ parameters_after (os ++ Opening.of_term (Term.eps (length bs) (type_instance os t)) ∷ []) bs

-- a parameter of its own for each binder
abbrev pub parameters_of : List Binder → List Opening
parameters_of bs = parameters_after [] bs

-- a reading of a premise of this role is lawful: each of its binders occurs in the left side, no part of the right side is
-- an instance of the left side, the binders being at parameters of their own, and there is a binder or the premise is a
-- definition
pub record IsLawful (role : Role) (r : Rule) : Type 0 where
  pub bound : (i : ℕ) → i < length r.binders → side_has i r.left ≡ true
  pub ends : (x : Side) → IsPart x (side_instance (parameters_of r.binders) r.right) → IsRedex r x → ⊥
  pub meant : (r.binders ≢ []) ⊎ (role ≡ Role.definition)

-- the rule is the first of the list that is lawful
pub data FirstLawful (role : Role) : List Rule → Rule → Type 0 where
  first : {r : Rule} {rs : List Rule} → IsLawful role r → FirstLawful role (r ∷ rs) r
  later : {r s : Rule} {rs : List Rule} → (IsLawful role r → ⊥) → FirstLawful role rs s → FirstLawful role (r ∷ rs) s

-- the premise is the rule
abbrev pub IsRule : Premise → Rule → Type 0
IsRule p r = FirstLawful p.role (readings p.form) r

-- the premise is no rule, so it is kept
abbrev pub IsKept : Premise → Type 0
IsKept p = (r : Rule) → IsRule p r → ⊥

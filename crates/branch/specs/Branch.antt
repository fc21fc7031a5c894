-- Branches, and what closes them.
use Rattle.std.specs.Prelude.{Bool, true, false, ◌&&◌, List, [], ◌∷◌, ◌++◌, Option, None, Some, cond}
use Rattle.std.specs.Option.{option_or}
use Rattle.zm_logic.specs.Tree.{Form}
use Rattle.zm_logic.specs.Same.{same, same_type, same_term, has}

-- A branch is a list of distinct formulas, the oldest first. A formula that stands on it isn't added again.
abbrev pub add : List Form → Form → List Form
add branch f = cond (has branch f) branch (branch ++ f ∷ [])

abbrev pub extend : List Form → List Form → List Form
extend branch [] = branch
extend branch (f ∷ fs) = extend (add branch f) fs

-- the formula, or its negation
abbrev pub signed : Bool → Form → Form
signed true f = f
signed false f = Form.negation f

-- What closes a branch: one formula, or an unnegated formula and a negated one. Swapped are s = t and ~(t = s).
pub record Closing : Type 0 where
  pub first : Form
  pub second : Option Form
  pub swapped : Bool

abbrev pub closes_alone : Form → Bool
closes_alone Form.falsity = true
closes_alone (Form.negation Form.truth) = true
closes_alone (Form.negation (Form.equal t a b)) = same_term a b
closes_alone f = false

-- whether the formulas are s = t and ~(t = s)
abbrev pub is_swapped : Form → Form → Bool
is_swapped (Form.equal t a b) (Form.negation (Form.equal u c d)) = same_type t u && (same_term a d && same_term b c)
is_swapped f g = false

abbrev pub alone : Form → Closing
alone f = record { first = f; second = None; swapped = false }

abbrev pub pair_of : Form → Form → Bool → Closing
pair_of f g swapped = record { first = f; second = Some g; swapped = swapped }

-- What an earlier and a later formula close together: a formula and its negation come before a swapped pair.
abbrev pub closing_of : Form → Form → Option Closing
closing_of g f =
    cond (same f (Form.negation g)) (Some (pair_of g f false))
    (cond (same g (Form.negation f)) (Some (pair_of f g false))
    (cond (is_swapped g f) (Some (pair_of g f true))
    (cond (is_swapped f g) (Some (pair_of f g true)) None)))

-- the first of the earlier formulas that closes with the later one
abbrev pub closing_with : List Form → Form → Option Closing
closing_with [] f = None
closing_with (g ∷ gs) f = option_or (closing_of g f) (closing_with gs f)

-- a formula that closes alone counts before every pair of its place
abbrev pub closing_at : List Form → Form → Option Closing
closing_at gs f = cond (closes_alone f) (Some (alone f)) (closing_with gs f)

-- the least later place counts; the first list holds the formulas before those of the second
abbrev pub closing_from : List Form → List Form → Option Closing
closing_from gs [] = None
closing_from gs (f ∷ fs) = option_or (closing_at gs f) (closing_from (gs ++ f ∷ []) fs)

abbrev pub closing : List Form → Option Closing
closing branch = closing_from [] branch

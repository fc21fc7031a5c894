-- What a formula may close a branch with, by its outermost symbols.
use Rattle.std.specs.Prelude.{Bool, true, false, cond, Option, None, Some}
use Rattle.zm_logic.specs.Tree.{Form}
use Rattle.branch.specs.Branch.{Closing, is_swapped, pair_of}

-- the formula that a negation denies
abbrev pub denied : Form → Option Form
denied (Form.negation f) = Some f
denied f = None

-- whether a formula is an equality or the negation of one
abbrev pub is_equation : Form → Bool
is_equation (Form.equal t a b) = true
is_equation (Form.negation (Form.equal t a b)) = true
is_equation f = false

-- what an earlier and a later formula close together, where neither is the negation of the other
abbrev pub closing_swapped : Form → Form → Option Closing
closing_swapped g f = cond (is_swapped g f) (Some (pair_of g f true)) (cond (is_swapped f g) (Some (pair_of f g true)) None)

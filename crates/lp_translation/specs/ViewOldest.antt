-- The oldest proof of one of several formulas, as it is looked for from the last fact on.
use Rattle.std.specs.Prelude.{Bool, false, ◌||◌, cond, List, [], ◌∷◌, map}
use Rattle.std.specs.Borrow.{Bor}
use Rattle.lp_terms.specs.Term.{Lp}
use Rattle.zm_logic.specs.Tree as tree
use Rattle.zm_logic.specs.Same.{same}
use Rattle.zm_logic.specs.View.{form_tree}
use Rattle.zm_logic.specs.declared.tree.Form.{Form}
use Rattle.lp_translation.specs.ProofOf.{Hypotheses}

-- the formulas that references lead to
abbrev pub forms_of : List (Bor Form) → List tree.Form
forms_of fs = map (λ f. form_tree f.now) fs

-- the formula is one of those wanted
abbrev pub wants : List tree.Form → tree.Form → Bool
wants [] f = false
wants (w ∷ ws) f = same f w || wants ws f

-- one of the formulas is wanted
abbrev pub meets : List tree.Form → List tree.Form → Bool
meets [] ws = false
meets (f ∷ fs) ws = wants ws f || meets fs ws

-- the oldest proof of a wanted formula, or the term where there is none
abbrev pub oldest_or : Hypotheses → List tree.Form → Lp → Lp
oldest_or Hypotheses.none ws u = u
oldest_or (Hypotheses.more fs h hs) ws u = oldest_or hs ws (cond (meets fs ws) h u)

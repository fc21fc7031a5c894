-- Which rule fits a term or a formula, and the parts that its binders stand for there.
use Rattle.std.specs.Prelude.{ℕ, ◌+◌, ◌≡◌, true, List, [], ◌∷◌}
use Rattle.zm_logic.specs.Tree.{Binder, Opening, Side, Rule}
use Rattle.rule_index.specs.Instance.{put}
use Rattle.rule_index.specs.Matching.{are_of}

-- a left side is x at these parts, one of each binder's kind, the outermost binder's first
pub record IsMatch (bs : List Binder) (left x : Side) (os : List Opening) : Type 0 where
  pub kinds : are_of os bs ≡ true
  pub instance : put os left ≡ x

-- at no parts is the rule's left side x
abbrev pub FitsNot : Rule → Side → Type 0
FitsNot r x = (os : List Opening) → ¬ IsMatch r.binders r.left x os

-- the rule of a number fits x at these parts, and no rule before it fits
pub data FirstFits : List Rule → Side → ℕ → List Opening → Type 0 where
  first : {r : Rule} {rules : List Rule} {x : Side} {os : List Opening} → IsMatch r.binders r.left x os → FirstFits (r ∷ rules) x 0 os
  later : {r : Rule} {rules : List Rule} {x : Side} {n : ℕ} {os : List Opening} → FitsNot r x → FirstFits rules x n os
      → FirstFits (r ∷ rules) x (n + 1) os

-- no rule fits x
abbrev pub NoneFits : List Rule → Side → Type 0
NoneFits [] x = Unit {0}
NoneFits (r ∷ rules) x = FitsNot r x × NoneFits rules x

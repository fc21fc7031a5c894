-- Normal forms within a limit of steps and of depth, or why there is none.
use Rattle.std.specs.Prelude.{ℕ, suc, ◌≤◌, ◌<◌, List, [], ◌∷◌}
use Rattle.zm_logic.specs.Tree.{Form, Side, Rule}
use Rattle.zm_logic.specs.Measure.{depth}
use Rattle.branch.specs.Setting.{Setting}
use Rattle.zm_logic.specs.Innermost.{IsNormal, InnermostStep}

-- Why something can't be made: a formula has more steps than may be taken, or something is deeper than 2,000. Of a
-- formula that a step leads to, the last formula before it is named.
pub data Fault : Type 0 where
  rewrites : (from : Form) → Fault
  deep : (at : Side) → Fault

-- what was asked for, or the fault
pub data Made (A : Type 0) : Type 0 where
  made : A → Made A
  fault : Fault → Made A

-- Leftmost innermost steps, at most so many, lead from a formula to its normal form, and no formula on the way is deeper
-- than 2,000; or what stops them. `from` is the formula that the first step was made from.
pub data NormalizesFrom (rules : List Rule) (from : Form) : ℕ → Form → Made Form → Type 0 where
  done : {n : ℕ} {f : Form} → IsNormal rules f → NormalizesFrom rules from n f (Made.made f)
  step : {n : ℕ} {f g : Form} {x : Made Form} → InnermostStep rules f g → depth g ≤ 2000 → NormalizesFrom rules from n g x
      → NormalizesFrom rules from (suc n) f x
  too_deep : {n : ℕ} {f g : Form} → InnermostStep rules f g → 2000 < depth g
      → NormalizesFrom rules from (suc n) f (Made.fault (Fault.deep (Side.of_form f)))
  spent : {f g : Form} → InnermostStep rules f g → NormalizesFrom rules from 0 f (Made.fault (Fault.rewrites from))

abbrev pub Normalizes : Setting → Form → Made Form → Type 0
Normalizes s f x = NormalizesFrom s.rules f s.rewrites f x

-- the formula has this normal form
abbrev pub Reaches : Setting → Form → Form → Type 0
Reaches s f g = Normalizes s f (Made.made g)

-- each member of a list is made, in order, up to the first that can't be
pub data MakesAll {A B : Type 0} (Makes : A → Made B → Type 0) : List A → Made (List B) → Type 0 where
  none : MakesAll Makes [] (Made.made [])
  more : {x : A} {y : B} {xs : List A} {ys : List B} → Makes x (Made.made y) → MakesAll Makes xs (Made.made ys)
      → MakesAll Makes (x ∷ xs) (Made.made (y ∷ ys))
  first : {x : A} {xs : List A} {e : Fault} → Makes x (Made.fault e) → MakesAll Makes (x ∷ xs) (Made.fault e)
  later : {x : A} {y : B} {xs : List A} {e : Fault} → Makes x (Made.made y) → MakesAll Makes xs (Made.fault e)
      → MakesAll Makes (x ∷ xs) (Made.fault e)

-- What the three answers mean, by the relation of leftmost innermost steps.
use Rattle.std.specs.Prelude.{ℕ, suc, ◌≤◌, ◌<◌, List}
use Rattle.zm_logic.specs.Tree.{Form, Rule, Symbol}
use Rattle.zm_logic.specs.Measure.{depth}
use Rattle.zm_logic.specs.Typing.{WellTyped}
use Rattle.zm_logic.specs.Rewriting.{Step}
use Rattle.zm_logic.specs.Innermost.{InnermostStep, Innermost}
use Rattle.normaliser.specs.NormalForm.{Answer}

-- each step leads from well typed formulas to well typed formulas
abbrev pub KeepsTyping : List Symbol → List Rule → Type 0
KeepsTyping symbols rules = (f g : Form) → Step rules f g → WellTyped symbols f → WellTyped symbols g

-- n leftmost innermost steps lead from one formula to another, and no reduct on the way is deeper than 2,000
pub data Leads (rules : List Rule) : Form → ℕ → Form → Type 0 where
  done : {f : Form} → Leads rules f 0 f
  step : {f g h : Form} {n : ℕ} → InnermostStep rules f g → depth g ≤ 2000 → Leads rules g n h → Leads rules f (suc n) h

-- what the answer for a formula within a limit of steps says: the normal form, reached by as many steps; that more steps
-- can be made than the limit has; or the last formula before one that is deeper than 2,000
pub data Meets (rules : List Rule) (limit : ℕ) (f : Form) : Answer Form → Type 0 where
  reached : {g : Form} {n : ℕ} → Innermost rules f n g → Leads rules f n g → n ≤ limit → Meets rules limit f (Answer.reached g n)
  spent : {g h : Form} → Leads rules f limit g → InnermostStep rules g h → Meets rules limit f Answer.spent
  deep : {g h : Form} {n : ℕ} → Leads rules f n g → n < limit → InnermostStep rules g h → 2000 < depth h
      → Meets rules limit f (Answer.deep g)

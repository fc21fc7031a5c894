-- Normal forms within a limit of steps and a bound on depth.
use Rattle.std.specs.Prelude.{ℕ, zero, suc, ◌≤◌, ◌<◌, ◌≡◌, leb, if◌then◌else◌, List, Option, Some, None}
use Rattle.zm_logic.specs.Tree.{Form, Rule}
use Rattle.zm_logic.specs.Measure.{depth}
use Rattle.normaliser.specs.NextStep.{next_step}

-- the normal form with the number of its steps, more steps than the limit, or the last tree before one that is too deep
pub data Answer (A : Type 0) : Type 0 where
  reached : (normal : A) (steps : ℕ) → Answer A
  spent : Answer A
  deep : (at : A) → Answer A

abbrev pub counted : {A : Type 0} → Answer A → Answer A
counted (Answer.reached g n) = Answer.reached g (suc n)
counted Answer.spent = Answer.spent
counted (Answer.deep g) = Answer.deep g

module _ {A : Type 0} (next : A → Option A) (deepness : A → ℕ) (bound : ℕ) where
  -- what is answered at a tree with this next step: at the limit, and before it
  abbrev pub at_limit : A → Option A → Answer A
  at_limit f None = Answer.reached f 0
  at_limit f (Some g) = Answer.spent

  abbrev pub before_limit : (A → Answer A) → A → Option A → Answer A
  before_limit later f None = Answer.reached f 0
  before_limit later f (Some g) = if leb (deepness g) bound then counted (later g) else Answer.deep f

  -- step by step
  abbrev pub run : ℕ → A → Answer A
  run zero f = at_limit f (next f)
  run (suc limit) f = before_limit (run limit) f (next f)

  -- n steps lead from one tree to another, and each tree on the way, both ends included, is within the bound
  pub data Runs : A → ℕ → A → Type 0 where
    done : {f : A} → deepness f ≤ bound → Runs f 0 f
    step : {f g h : A} {n : ℕ} → deepness f ≤ bound → next f ≡ Some g → Runs g n h → Runs f (suc n) h

  -- what an answer says
  pub data Outcome (limit : ℕ) (f : A) : Answer A → Type 0 where
    reached : {g : A} {n : ℕ} → Runs f n g → next g ≡ None → n ≤ limit → Outcome limit f (Answer.reached g n)
    spent : {g h : A} → Runs f limit g → next g ≡ Some h → Outcome limit f Answer.spent
    deep : {g h : A} {n : ℕ} → Runs f n g → n < limit → next g ≡ Some h → bound < deepness h → Outcome limit f (Answer.deep g)

-- the answer for a formula: no formula on the way is deeper than 2,000
abbrev pub normal_form : List Rule → ℕ → Form → Answer Form
normal_form rules limit f = run (next_step rules) depth 2000 limit f

-- For a well typed formula the answer is what the relation of steps says.
use Rattle.std.proofs.Common.{ℕ, ◌≡◌, ◌≤◌, sym, subst, List, Some, None}
use Rattle.zm_logic.specs.Tree.{Form, Rule, Symbol}
use Rattle.zm_logic.specs.Measure.{depth}
use Rattle.zm_logic.specs.Typing.{WellTyped}
use Rattle.zm_logic.specs.Innermost.{InnermostStep, Innermost}
use Rattle.zm_logic.proofs.Innermost.{innermost_step}
use Rattle.normaliser.specs.NextStep.{next_step}
use Rattle.normaliser.specs.NormalForm.{Answer, Runs, Outcome, normal_form}
use Rattle.rule_index.specs.Usable.{AreUsable}
use Rattle.normaliser.specs.Evaluate.{by_parts}
use Rattle.normaliser.specs.Meaning.{KeepsTyping, Leads, Meets}
use Rattle.rule_index.proofs.Scope.{typed_is_scoped}
use Rattle.normaliser.proofs.Agrees.{none_is_normal, next_step_is, step_is_next, normal_is_none}
use Rattle.normaliser.proofs.Outcomes.{run_starts, run_has_outcome, outcome_is_run}
use Rattle.normaliser.proofs.Evaluated.{by_parts_is_normal_form}

module _ (symbols : List Symbol) (rules : List Rule) (ok : AreUsable rules) (keep : KeepsTyping symbols rules) where
  kept : {f g : Form} → WellTyped symbols f → next_step rules f ≡ Some g → InnermostStep rules f g × WellTyped symbols g
  kept {f} {g} w e =
      let s = next_step_is rules ok f g (typed_is_scoped symbols w) e in (s, keep _ _ (innermost_step rules s) w)

  runs_innermost : {f g : Form} {n : ℕ} → WellTyped symbols f → Runs (next_step rules) depth 2000 f n g → next_step rules g ≡ None → Innermost rules f n g
  runs_innermost w (Runs.done {f = f} l) e = Innermost.done (none_is_normal rules ok f (typed_is_scoped symbols w) e)
  runs_innermost w (Runs.step l d r) e = let k = kept w d in Innermost.step k.0 (runs_innermost k.1 r e)

  runs_lead : {f g : Form} {n : ℕ} → WellTyped symbols f → Runs (next_step rules) depth 2000 f n g → Leads rules f n g × WellTyped symbols g
  runs_lead w (Runs.done l) = (Leads.done, w)
  runs_lead w (Runs.step l d r) = let k = kept w d in let x = runs_lead k.1 r in (Leads.step k.0 (run_starts (next_step rules) depth 2000 r) x.0, x.1)

  leads_run : {f g : Form} {n : ℕ} → WellTyped symbols f → depth f ≤ 2000 → Leads rules f n g → Runs (next_step rules) depth 2000 f n g × WellTyped symbols g
  leads_run w l Leads.done = (Runs.done l, w)
  leads_run w l (Leads.step s d r) =
      let x = leads_run (keep _ _ (innermost_step rules s) w) d r in (Runs.step l (step_is_next rules ok s (typed_is_scoped symbols w)) x.0, x.1)

  innermost_ends : {f g : Form} {n : ℕ} → WellTyped symbols f → Innermost rules f n g → next_step rules g ≡ None
  innermost_ends w (Innermost.done {f = f} h) = normal_is_none rules ok f (typed_is_scoped symbols w) h
  innermost_ends w (Innermost.step s r) = innermost_ends (keep _ _ (innermost_step rules s) w) r

  pub outcome_meets : (limit : ℕ) (f : Form) {a : Answer Form} → WellTyped symbols f → Outcome (next_step rules) depth 2000 limit f a → Meets rules limit f a
  outcome_meets limit f w (Outcome.reached r e l) = Meets.reached (runs_innermost w r e) (runs_lead w r).0 l
  outcome_meets limit f w (Outcome.spent r e) = let x = runs_lead w r in Meets.spent x.0 (kept x.1 e).0
  outcome_meets limit f w (Outcome.deep r l e b) = let x = runs_lead w r in Meets.deep x.0 l (kept x.1 e).0 b

  meets_outcome : (limit : ℕ) (f : Form) {a : Answer Form} → WellTyped symbols f → depth f ≤ 2000 → Meets rules limit f a → Outcome (next_step rules) depth 2000 limit f a
  meets_outcome limit f w d (Meets.reached i r l) = Outcome.reached (leads_run w d r).0 (innermost_ends w i) l
  meets_outcome limit f w d (Meets.spent r s) = let x = leads_run w d r in Outcome.spent x.0 (step_is_next rules ok s (typed_is_scoped symbols x.1))
  meets_outcome limit f w d (Meets.deep r l s b) = let x = leads_run w d r in Outcome.deep x.0 l (step_is_next rules ok s (typed_is_scoped symbols x.1)) b

  -- the answer is the one that the relation has, and the only one
  pub normal_form_meets : (limit : ℕ) (f : Form) → WellTyped symbols f → depth f ≤ 2000 → Meets rules limit f (normal_form rules limit f)
  normal_form_meets limit f w d = outcome_meets limit f w (run_has_outcome (next_step rules) depth 2000 limit f d)

  pub meets_is_normal_form : (limit : ℕ) (f : Form) (a : Answer Form) → WellTyped symbols f → depth f ≤ 2000 → Meets rules limit f a → a ≡ normal_form rules limit f
  meets_is_normal_form limit f a w d m = outcome_is_run (next_step rules) depth 2000 limit f (meets_outcome limit f w d m)

  pub by_parts_meets : (limit : ℕ) (f : Form) → WellTyped symbols f → depth f ≤ 2000 → Meets rules limit f (by_parts rules limit f)
  by_parts_meets limit f w d = subst (Meets rules limit f) (sym (by_parts_is_normal_form rules limit f d)) (normal_form_meets limit f w d)

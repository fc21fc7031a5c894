-- Step by step to the answer, over the ids of a store.
use Rattle.std.proofs.Common.{ℕ, ◌≡◌, ◌+◌, ◌<◌, ◌≤◌, true, false, refl, sym, ap, subst, ◌∙◌, arith, List, Option, Some, None, is_some}
use Rattle.zm_logic.specs.Tree as tree
use Rattle.zm_logic.specs.declared.tree.Form.{Form}
use Rattle.zm_logic.specs.Measure.{depth}
use Rattle.term_store.specs.declared.ids.FormId.{FormId}
use Rattle.term_store.specs.Trees.{Tables, HasForm, form_of, Extends}
use Rattle.term_store.proofs.Kept.{extends_itself, extends_more, still_form, kept_form}
use Rattle.normaliser.specs.NextStep.{next_step}
use Rattle.normaliser.specs.NormalForm.{Answer, Runs, Outcome, normal_form}
use Rattle.normaliser.specs.View.{some_form}
use Rattle.normaliser.specs.Answered.{some_tree, IsTooDeep, IfStopped, IfDeepAt, IfSpentFrom}
use Rattle.normaliser.specs.declared.normalising.NormalStop.{NormalStop}
use Rattle.normaliser.specs.declared.normalising.NormalStop.TheVariants as stops
use Rattle.normaliser.proofs.Outcomes.{run_ends, outcome_is_run, joined_runs}

-- there is a tree where there is a formula
pub some_is_some : (m : Option Form) → is_some (some_form m) ≡ is_some m
some_is_some None = refl
some_is_some (Some f) = refl

-- in the store s, which extends r, the formula is led to another by so many steps, each reduct within 2,000
pub record IsLed (rules : List tree.Rule) (limit : ℕ) (form : FormId) (r s : Tables) (reached : FormId) (steps : ℕ) : Type 0 where
  pub kept : Extends r s
  pub has : HasForm s reached
  pub within : steps ≤ limit
  pub runs : Runs (next_step rules) depth 2000 (form_of r form) steps (form_of s reached)

pub led_start : (rules : List tree.Rule) (limit : ℕ) (form : FormId) (r : Tables) → HasForm r form → depth (form_of r form) ≤ 2000
    → IsLed rules limit form r r form 0
led_start rules limit form r h l = record { kept = extends_itself r; has = h; within = omega arith; runs = Runs.done l }

module _ (rules : List tree.Rule) (limit : ℕ) (form : FormId) (r s : Tables) (reached : FormId) (steps : ℕ)
    (led : IsLed rules limit form r s reached steps) where
  pub led_on : (t : Tables) (next : FormId) → some_tree t (Some next) ≡ next_step rules (form_of s reached) → steps < limit
      → Extends s t → HasForm t next → depth (form_of t next) ≤ 2000 → IsLed rules limit form r t next (steps + 1)
  led_on t next e l x h d = record {
    kept = extends_more r s t led.kept x;
    has = h;
    within = omega (arith, l);
    runs = joined_runs (next_step rules) depth 2000 led.runs (Runs.step (run_ends (next_step rules) depth 2000 led.runs) (sym e) (Runs.done d));
  }

  is_answer : {a : Answer tree.Form} → Outcome (next_step rules) depth 2000 limit (form_of r form) a → a ≡ normal_form rules limit (form_of r form)
  is_answer o = outcome_is_run (next_step rules) depth 2000 limit (form_of r form) o

  pub reached_answers : (t : Tables) → Extends s t → None ≡ next_step rules (form_of s reached)
      → Answer.reached (form_of t reached) steps ≡ normal_form rules limit (form_of r form)
  reached_answers t x e =
      ap (λ g. Answer.reached g steps) (kept_form s t x reached led.has) ∙ is_answer (Outcome.reached led.runs (sym e) led.within)

  pub spent_answers : steps ≡ limit → true ≡ is_some (next_step rules (form_of s reached))
      → Answer.spent ≡ normal_form rules limit (form_of r form)
  spent_answers is e = go (next_step rules (form_of s reached)) refl e
    where
      go : (m : Option tree.Form) → next_step rules (form_of s reached) ≡ m → true ≡ is_some m → Answer.spent ≡ normal_form rules limit (form_of r form)
      go None d e = cc
      go (Some g) d e =
          is_answer (Outcome.spent (subst (λ k. Runs (next_step rules) depth 2000 (form_of r form) k (form_of s reached)) is led.runs) d)

  pub end_answers : steps ≡ limit → false ≡ is_some (next_step rules (form_of s reached))
      → Answer.reached (form_of s reached) limit ≡ normal_form rules limit (form_of r form)
  end_answers is e = go (next_step rules (form_of s reached)) refl e
    where
      go : (m : Option tree.Form) → next_step rules (form_of s reached) ≡ m → false ≡ is_some m
          → Answer.reached (form_of s reached) limit ≡ normal_form rules limit (form_of r form)
      go None d e = ap (Answer.reached (form_of s reached)) (sym is) ∙ is_answer (Outcome.reached led.runs d led.within)
      go (Some g) d e = cc

  pub deep_answers : (t : Tables) → Extends s t → steps < limit → IsTooDeep (next_step rules (form_of s reached))
      → Answer.deep (form_of t reached) ≡ normal_form rules limit (form_of r form)
  deep_answers t x l e = go (next_step rules (form_of s reached)) refl e
    where
      go : (m : Option tree.Form) → next_step rules (form_of s reached) ≡ m → IsTooDeep m → Answer.deep (form_of t reached) ≡ normal_form rules limit (form_of r form)
      go None d e = absurd e
      go (Some g) d e = ap Answer.deep (kept_form s t x reached led.has) ∙ is_answer (Outcome.deep led.runs l d e)

  -- where the step is refused
  pub stop_answers : (t : Tables) → Extends s t → steps < limit → (stop : NormalStop)
      → IfDeepAt (λ at. (at ≡ reached) × IsTooDeep (next_step rules (form_of s reached))) stop → IfSpentFrom (λ from. ⊥) stop
      → IfStopped t (λ a. a ≡ normal_form rules limit (form_of r form)) stop
  stop_answers t x l stops.Memory d e = tt
  stop_answers t x l (stops.Spent i) d e = absurd e
  stop_answers t x l (stops.Deep i) d e =
      subst (λ at. Answer.deep (form_of t at) ≡ normal_form rules limit (form_of r form)) (sym d.0) (deep_answers t x l d.1)

  pub stop_has : (t : Tables) → Extends s t → (stop : NormalStop)
      → IfDeepAt (λ at. (at ≡ reached) × IsTooDeep (next_step rules (form_of s reached))) stop → IfDeepAt (HasForm t) stop
  stop_has t x stops.Memory d = tt
  stop_has t x (stops.Spent i) d = tt
  stop_has t x (stops.Deep i) d = subst (HasForm t) (sym d.0) (still_form s t x reached led.has)

  pub led_has : (t : Tables) → Extends s t → HasForm t reached
  led_has t x = still_form s t x reached led.has

  pub led_kept : (t : Tables) → Extends s t → Extends r t
  led_kept t x = extends_more r s t led.kept x

-- The normal form of a term with the number of its steps.
use Rattle.std.specs.Prelude.{◌≡◌, ℕ, zero, suc, List, [], Option, Some, None}
use Rattle.std.specs.Option.{option_map}
use Rattle.lp_terms.specs.Term.{Lp}
use Rattle.lp_terms.specs.Signature.{Entry}
use Rattle.lp_reduce.specs.Step.{next_step}

-- so many leftmost innermost steps lead from a term to another; binders' variables have the numbers from n on
pub data Leads (sigma : List Entry) (n : ℕ) : ℕ → Lp → Lp → Type 0 where
  none : {t : Lp} → Leads sigma n zero t t
  more : {count : ℕ} {t u v : Lp} → next_step sigma n [] t ≡ Some u → Leads sigma n count u v → Leads sigma n (suc count) t v

-- so many steps can be made
abbrev pub CanMake : List Entry → ℕ → ℕ → Lp → Type 0
CanMake sigma n count t = (u : Lp) × Leads sigma n count t u

pub record Normal : Type 0 where
  pub form : Lp
  pub steps : ℕ

abbrev pub normal_of : Lp → ℕ → Normal
normal_of t count = record { form = t; steps = count }

abbrev pub one_step_more : Normal → Normal
one_step_more m = record { form = m.form; steps = suc m.steps }

-- the term itself where there is no next step, else what comes of the next, with one step more
abbrev pub after_step : Lp → Option Lp → (Lp → Option Normal) → Option Normal
after_step t None rest = Some (normal_of t 0)
after_step t (Some u) rest = option_map one_step_more (rest u)

-- the normal form, where at most limit steps lead to it
abbrev pub normal : List Entry → ℕ → ℕ → Lp → Option Normal
normal sigma n zero t = after_step t (next_step sigma n [] t) (λ u. None)
normal sigma n (suc limit) t = after_step t (next_step sigma n [] t) (λ u. normal sigma n limit u)

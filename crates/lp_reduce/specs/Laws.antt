-- What the definitions promise of one another. Each statement is the contract of a function of the module laws.
use Rattle.std.specs.Prelude.{ℕ, ◌≡◌, ◌≤◌, ◌↔◌, suc, List, [], Some, None}
use Rattle.lp_terms.specs.Term.{Lp}
use Rattle.lp_terms.specs.Signature.{Entry}
use Rattle.lp_terms.specs.Reduction.{Reduces, Converts}
use Rattle.lp_reduce.specs.Scope.{IsScoped, IsScopedSignature}
use Rattle.lp_reduce.specs.Step.{next_step}
use Rattle.lp_reduce.specs.Normal.{Leads, CanMake, Normal, normal}

-- The next step of a term without loose indices is a reduction.
abbrev pub StepsAreReductions : Type 0
StepsAreReductions =
    (sigma : List Entry) (n : ℕ) (t u : Lp) → IsScopedSignature sigma → IsScoped n 0 t
    → next_step sigma n [] t ≡ Some u → Reduces sigma t u

-- A term converts to its normal form.
abbrev pub NormalFormsConvert : Type 0
NormalFormsConvert =
    (sigma : List Entry) (n limit : ℕ) (t : Lp) (m : Normal) → IsScopedSignature sigma → IsScoped n 0 t
    → normal sigma n limit t ≡ Some m → Converts sigma t m.form

-- A normal form is reached by exactly its number of steps, has no next step, and its number of steps is within the limit.
abbrev pub NormalFormsAreReached : Type 0
NormalFormsAreReached =
    (sigma : List Entry) (n limit : ℕ) (t : Lp) (m : Normal) → normal sigma n limit t ≡ Some m
    → Leads sigma n m.steps t m.form × (next_step sigma n [] m.form ≡ None) × (m.steps ≤ limit)

-- There is none within the limit exactly where more steps than the limit can be made.
abbrev pub NoneIsMoreSteps : Type 0
NoneIsMoreSteps =
    (sigma : List Entry) (n limit : ℕ) (t : Lp) → (normal sigma n limit t ≡ None) ↔ CanMake sigma n (suc limit) t

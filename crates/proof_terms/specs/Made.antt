-- Terms that are made where memory is not wanting, and the numbers of their variables.
use Rattle.std.specs.Prelude.{ℕ, ◌≡◌, Option, Some, None, Result, IfOk}
use Rattle.lp_terms.specs.Term as plain
use Rattle.lp_terms.specs.View.{term_of}
use Rattle.lp_terms.specs.declared.term.Lp.{Lp}

-- where there is a term, it is this one
abbrev pub Makes : {E : Type 0} → Result Lp E → plain.Lp → Type 0
Makes made t = IfOk made (λ m. term_of m ≡ t)

-- where there is a number, it is this one
abbrev pub Numbers : Option ℕ → ℕ → Type 0
Numbers (Some v) n = v ≡ n
Numbers None n = Unit {0}

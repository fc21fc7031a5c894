-- The three changes of a term under so many binders, as one.
use Rattle.std.specs.Prelude.{ℕ}
use Rattle.lp_terms.specs.Term.{Lp, open_at, close_at, substitute, only}

pub data Change : Type 0 where
  open_with : (u : Lp) → Change
  close_on : (x : ℕ) → Change
  substitute_by : (x : ℕ) (u : Lp) → Change

-- a part of the term that is changed, under so many of its binders
abbrev pub changed : Change → ℕ → Lp → Lp
changed (Change.open_with u) k t = open_at k u t
changed (Change.close_on x) k t = close_at k x t
changed (Change.substitute_by x u) k t = substitute (only x u) t

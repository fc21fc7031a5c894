-- Terms that the printer takes.
use Rattle.std.specs.Prelude.{ℕ, ◌+◌, ◌<◌}
use Rattle.lp_terms.specs.Term.{Lp}

-- each index is below the number of binders round it, and k stand round the term
abbrev pub IsWithin : ℕ → Lp → Type 0
IsWithin k Lp.sort = Unit {0}
IsWithin k (Lp.const name) = Unit {0}
IsWithin k (Lp.free n) = Unit {0}
IsWithin k (Lp.index i) = i < k
IsWithin k (Lp.app f a) = IsWithin k f × IsWithin k a
IsWithin k (Lp.abs a b) = IsWithin k a × IsWithin (k + 1) b
IsWithin k (Lp.prod a b) = IsWithin k a × IsWithin (k + 1) b

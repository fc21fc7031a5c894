-- A number above those of all free variables.
use Rattle.std.specs.Prelude.{ℕ, max, List, [], ◌∷◌}
use Rattle.lp_terms.specs.Term.{Lp}
use Rattle.lp_terms.specs.Signature.{Entry}
use Rattle.lp_terms.specs.Measure.{free_bound}

abbrev pub terms_bound : List Lp → ℕ
terms_bound [] = 0
terms_bound (t ∷ ts) = max (free_bound t) (terms_bound ts)

abbrev pub entry_bound : Entry → ℕ
entry_bound (Entry.declare name definable type) = free_bound type
entry_bound (Entry.rule context left right) = max (terms_bound context) (max (free_bound left) (free_bound right))
entry_bound (Entry.define name type body) = max (free_bound type) (free_bound body)

abbrev pub entries_bound : List Entry → ℕ
entries_bound [] = 0
entries_bound (e ∷ es) = max (entry_bound e) (entries_bound es)

-- one more than the greatest number of a free variable of the signature and the term
abbrev pub new_number : List Entry → Lp → ℕ
new_number sigma t = max (entries_bound sigma) (free_bound t)

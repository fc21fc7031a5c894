-- Bindings as unification makes them.
use Rattle.std.specs.Prelude.{ℕ, ◌≡◌, ◌≢◌, List, [], ◌∷◌}
use Rattle.zm_logic.specs.Tree.{Ty, Term}
use Rattle.unify.specs.Binding.{Binding, solved_type, solved_term}
use Rattle.unify.specs.Unification.{LacksTypeMeta, LacksTermMeta}

-- the metavariable is bound by none
abbrev pub LacksTypeBinding : ℕ → List Binding → Type 0
LacksTypeBinding m [] = Unit {0}
LacksTypeBinding m (Binding.of_type n u ∷ bs) = (m ≢ n) × LacksTypeBinding m bs
LacksTypeBinding m (Binding.of_term n k u ∷ bs) = LacksTypeBinding m bs

abbrev pub LacksTermBinding : ℕ → Ty → List Binding → Type 0
LacksTermBinding m j [] = Unit {0}
LacksTermBinding m j (Binding.of_type n u ∷ bs) = LacksTermBinding m j bs
LacksTermBinding m j (Binding.of_term n k u ∷ bs) = (Term.meta m j ≢ Term.meta n k) × LacksTermBinding m j bs

-- each metavariable is bound once, to a tree that doesn't hold it under the earlier bindings, and that is no metavariable which they bind
abbrev pub AreLawful : List Binding → Type 0
AreLawful [] = Unit {0}
AreLawful (Binding.of_type m u ∷ bs) = LacksTypeBinding m bs × LacksTypeMeta m (solved_type bs u) × ((n : ℕ) → u ≡ Ty.meta n → LacksTypeBinding n bs) × AreLawful bs
AreLawful (Binding.of_term m k u ∷ bs) =
    LacksTermBinding m k bs × LacksTermMeta m k (solved_term bs u) × ((n : ℕ) (j : Ty) → u ≡ Term.meta n j → LacksTermBinding n j bs) × AreLawful bs

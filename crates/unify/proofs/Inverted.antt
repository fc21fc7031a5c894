-- What one equation comes to, read from the outcome of all.
use Rattle.std.proofs.Common.{List, ◌∷◌, subst}
use Rattle.unify.specs.Equation.{Equation}
use Rattle.unify.specs.Binding.{Binding}
use Rattle.unify.specs.Solution.{IsSolved}
use Rattle.unify.specs.Unification.{Binds, Splits, AreSame, Unifies}
use Rattle.unify.specs.Lawful.{AreLawful}
use Rattle.unify.specs.Task.{SameOutcome}
use Rattle.unify.proofs.Determined.{one_binding, one_split, not_both}
use Rattle.unify.proofs.Dropped.{dropped, added}

pub same_after : {bs cs ds : List Binding} {es fs gs : List Equation} → SameOutcome bs es cs fs → SameOutcome cs fs ds gs → SameOutcome bs es ds gs
same_after p q = record { there = λ m u. q.there m (p.there m u); back = λ m u. p.back m (q.back m u) }

pub same_itself : (bs : List Binding) (es : List Equation) → SameOutcome bs es bs es
same_itself bs es = record { there = λ m u. u; back = λ m u. u }

module _ (bs : List Binding) (e : Equation) (es : List Equation) where
  pub solved_outcome : AreLawful bs → IsSolved bs e → SameOutcome bs (e ∷ es) bs es
  solved_outcome l h = record { there = λ m u. added bs l m e es h u; back = λ m u. dropped bs l m e es h u }

  bound_there : {b : Binding} → ¬ AreSame bs e → Binds bs e b → (made : List Binding) → Unifies bs (e ∷ es) made → Unifies (b ∷ bs) es made
  bound_there n h made (Unifies.same x u) = absurd (n x)
  bound_there n h made (Unifies.binds m x u) = subst (λ c. Unifies (c ∷ bs) es made) (one_binding bs x h) u
  bound_there n h made (Unifies.splits m x u) = absurd (not_both bs h x)

  pub bound_outcome : {b : Binding} → ¬ AreSame bs e → Binds bs e b → SameOutcome bs (e ∷ es) (b ∷ bs) es
  bound_outcome n h = record { there = bound_there n h; back = λ m u. Unifies.binds n h u }

  split_there : {all : List Equation} → ¬ AreSame bs e → Splits bs e es all → (made : List Binding) → Unifies bs (e ∷ es) made → Unifies bs all made
  split_there n h made (Unifies.same x u) = absurd (n x)
  split_there n h made (Unifies.binds m x u) = absurd (not_both bs x h)
  split_there n h made (Unifies.splits m x u) = subst (λ l. Unifies bs l made) (one_split bs x h) u

  pub split_outcome : {all : List Equation} → ¬ AreSame bs e → Splits bs e es all → SameOutcome bs (e ∷ es) bs all
  split_outcome n h = record { there = split_there n h; back = λ m u. Unifies.splits n h u }

  -- none of the rules applies
  pub no_outcome : ¬ AreSame bs e → ((b : Binding) → Binds bs e b → ⊥) → ((all : List Equation) → Splits bs e es all → ⊥)
      → (made : List Binding) → Unifies bs (e ∷ es) made → ⊥
  no_outcome n f g made (Unifies.same x u) = n x
  no_outcome n f g made (Unifies.binds {b = b} m x u) = f b x
  no_outcome n f g made (Unifies.splits {all = all} m x u) = g all x

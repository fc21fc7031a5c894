-- Work that waits: one item gives way to others.
use Rattle.std.proofs.Common.{ℕ, ◌≡◌, ◌-◌, List, [], ◌∷◌, ◌++◌, take, append-nil, ap, ◌∙◌, arith}
use Rattle.unify.specs.Pending.{Each, AllAsked, IsMarked}

module _ {X : Type 0} (P : X → Type 0) where
  pub each_first : (xs ys : List X) → Each P (xs ++ ys) → Each P xs
  each_first [] ys h = tt
  each_first (x ∷ xs) ys h = (h.0, each_first xs ys h.1)

  pub each_last : (xs ys : List X) → Each P (xs ++ ys) → Each P ys
  each_last [] ys h = h
  each_last (x ∷ xs) ys h = each_last xs ys h.1

  pub each_both : (xs ys : List X) → Each P xs → Each P ys → Each P (xs ++ ys)
  each_both [] ys h k = k
  each_both (x ∷ xs) ys h k = (h.0, each_both xs ys h.1 k)

module _ {I X : Type 0} (Asks Gives : I → X → Type 0) where
  pub asked_first : (a : I) (xs ys : List X) → AllAsked Asks Gives a (xs ++ ys) → AllAsked Asks Gives a xs
  asked_first a [] ys h = tt
  asked_first a (x ∷ xs) ys h = (h.0, asked_first a xs ys h.1)

  pub asked_last : (a : I) (xs ys : List X) → AllAsked Asks Gives a (xs ++ ys) → AllAsked Asks Gives a ys
  asked_last a [] ys h = h
  asked_last a (x ∷ xs) ys h = asked_last a xs ys h.1

  pub asked_both : (a : I) (xs ys : List X) → AllAsked Asks Gives a xs → AllAsked Asks Gives a ys → AllAsked Asks Gives a (xs ++ ys)
  asked_both a [] ys h k = k
  asked_both a (x ∷ xs) ys h k = (h.0, asked_both a xs ys h.1 k)

  pub marked_last : (xs ys : List X) → IsMarked Asks Gives (xs ++ ys) → IsMarked Asks Gives ys
  marked_last [] ys m = m
  marked_last (x ∷ xs) ys m = marked_last xs ys m.1

  -- items that stand last give way to others
  pub marked_swap : (ys zs : List X) → ((a : I) → AllAsked Asks Gives a zs → AllAsked Asks Gives a ys) → IsMarked Asks Gives zs
      → (xs : List X) → IsMarked Asks Gives (xs ++ ys) → IsMarked Asks Gives (xs ++ zs)
  marked_swap ys zs f k [] m = k
  marked_swap ys zs f k (x ∷ xs) m =
      (λ a h. m.0 a (asked_both a xs ys (asked_first a xs zs h) (f a (asked_last a xs zs h))), marked_swap ys zs f k xs m.1)

-- nothing waits
pub none_left : {X : Type 0} (xs ys : List X) (n : ℕ) → xs ≡ ys ++ [] → ys ≡ take (n - 1) xs → n ≡ 0 → xs ≡ []
none_left xs ys n e f g = let h : n - 1 ≡ 0 = omega (arith, g) in e ∙ append-nil ys ∙ f ∙ ap (λ k. take k xs) h

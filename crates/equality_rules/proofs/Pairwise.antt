-- A test on the members of two lists of one length, and a test on the members of one list, from one place on.
use Rattle.std.proofs.Common.{ℕ, suc, ◌≡◌, ◌+◌, ◌<◌, ◌≤◌, Bool, true, false, ◌&&◌, List, [], ◌∷◌, length, get_or, drop, refl, ap, ◌∙◌}
use Rattle.std.proofs.lemmas.List.{drop_more, drop_all}
use Rattle.std.proofs.lemmas.Bool.{and_right}

module _ {X Y : Type 0} (test : X → Y → Bool) where
  abbrev pub pairwise : List X → List Y → Bool
  pairwise [] [] = true
  pairwise [] (y ∷ ys) = false
  pairwise (x ∷ xs) [] = false
  pairwise (x ∷ xs) (y ∷ ys) = test x y && pairwise xs ys

  pub pairs_step : (xs : List X) (ys : List Y) (i : ℕ) (d : X) (e : Y) → i < length xs → i < length ys
      → pairwise (drop i xs) (drop i ys) ≡ (test (get_or xs i d) (get_or ys i e) && pairwise (drop (i + 1) xs) (drop (i + 1) ys))
  pairs_step xs ys i d e h k = rw (drop_more xs i d h, drop_more ys i e k)

  pub pairs_no : (xs : List X) (ys : List Y) (i : ℕ) (d : X) (e : Y) → i < length xs → i < length ys
      → test (get_or xs i d) (get_or ys i e) ≡ false → pairwise (drop i xs) (drop i ys) ≡ false
  pairs_no xs ys i d e h k s = pairs_step xs ys i d e h k ∙ ap (λ b. b && pairwise (drop (i + 1) xs) (drop (i + 1) ys)) s

  pub pairs_unequal : (xs : List X) (ys : List Y) → (length xs ≡ length ys → ⊥) → pairwise xs ys ≡ false
  pairs_unequal [] [] h = absurd (h refl)
  pairs_unequal [] (y ∷ ys) h = refl
  pairs_unequal (x ∷ xs) [] h = refl
  pairs_unequal (x ∷ xs) (y ∷ ys) h = ap (λ b. test x y && b) (pairs_unequal xs ys (λ e. h (ap suc e))) ∙ (and_right (test x y) false refl)

  pub pairs_end : (xs : List X) (ys : List Y) (i : ℕ) → length xs ≤ i → length ys ≤ i → pairwise (drop i xs) (drop i ys) ≡ true
  pairs_end xs ys i h k = rw (drop_all i xs h, drop_all i ys k)

module _ {X : Type 0} (test : X → Bool) where
  abbrev pub each : List X → Bool
  each [] = true
  each (x ∷ xs) = test x && each xs

  pub each_step : (xs : List X) (i : ℕ) (d : X) → i < length xs → each (drop i xs) ≡ (test (get_or xs i d) && each (drop (i + 1) xs))
  each_step xs i d h = rw (drop_more xs i d h)

  pub each_no : (xs : List X) (i : ℕ) (d : X) → i < length xs → test (get_or xs i d) ≡ false → each (drop i xs) ≡ false
  each_no xs i d h s = each_step xs i d h ∙ ap (λ b. b && each (drop (i + 1) xs)) s

  pub each_end : (xs : List X) (i : ℕ) → length xs ≤ i → each (drop i xs) ≡ true
  each_end xs i h = rw (drop_all i xs h)

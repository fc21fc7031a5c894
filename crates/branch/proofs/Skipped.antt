-- Places of a loop, and what holds of those that it leaves out.
use Rattle.std.proofs.Common.{ℕ, zero, suc, ◌≡◌, ◌+◌, ◌<◌, ◌≤◌, Bool, true, false, ◌⊎◌, inl, inr, refl, sym, subst, List, [], ◌∷◌, ◌++◌, length, get_or, take, arith}
use Rattle.std.proofs.lemmas.Bool.Decides.{leb_tells}
use Rattle.branch.specs.Lookup.{Skips, with_place}

-- one place behind the others
skips_push : (P : ℕ → Type 0) (m : ℕ) (is : List ℕ) (n : ℕ) → m ≤ n → Skips P m is n → Skips P m (is ++ n ∷ []) (n + 1)
skips_push P m [] n l h = (l, omega arith, h, λ k a b. absurd (omega arith))
skips_push P m (i ∷ is) n l h = (h.0, omega (arith, h.1), h.2, skips_push P (i + 1) is n (omega (arith, h.1)) h.3)

at_last : (P : ℕ → Type 0) (m n : ℕ) → ((k : ℕ) → m ≤ k → k < n → P k) → P n → (k : ℕ) → m ≤ k → k < n + 1 → P k
at_last P m n h p k a b = elim (leb_tells n k) [
  | inl x ↦ let y = x.1 in let e : n ≡ k = omega arith in subst P e p
  | inr x ↦ h k a x.1
]

skips_more : (P : ℕ → Type 0) (m : ℕ) (is : List ℕ) (n : ℕ) → Skips P m is n → P n → Skips P m is (n + 1)
skips_more P m [] n h p = at_last P m n h p
skips_more P m (i ∷ is) n h p = (h.0, omega (arith, h.1), h.2, skips_more P (i + 1) is n h.3 p)

-- the places where a test is passed, with the next one
pub places_more : (test : ℕ → Bool) (b : Bool) (is now : List ℕ) (n : ℕ) → Skips (λ i. test i ≡ false) 0 is n → test n ≡ b → now ≡ with_place b is n
    → Skips (λ i. test i ≡ false) 0 now (n + 1)
places_more test true is now n h e q = subst (λ js. Skips (λ i. test i ≡ false) 0 js (n + 1)) (sym q) (skips_push (λ i. test i ≡ false) 0 is n (omega arith) h)
places_more test false is now n h e q = subst (λ js. Skips (λ i. test i ≡ false) 0 js (n + 1)) (sym q) (skips_more (λ i. test i ≡ false) 0 is n h e)

pub skips_weaker : (P Q : ℕ → Type 0) → ((k : ℕ) → P k → Q k) → (m : ℕ) (is : List ℕ) (n : ℕ) → Skips P m is n → Skips Q m is n
skips_weaker P Q to m [] n h = λ k a b. to k (h k a b)
skips_weaker P Q to m (i ∷ is) n h = (h.0, h.1, λ k a b. to k (h.2 k a b), skips_weaker P Q to (i + 1) is n h.3)

-- the place behind the last of some places
abbrev pub behind : ℕ → List ℕ → ℕ
behind m [] = m
behind m (i ∷ is) = behind (i + 1) is

pub behind_none : (m : ℕ) (is : List ℕ) → behind m (take 0 is) ≡ m
behind_none m [] = refl
behind_none m (i ∷ is) = refl

pub behind_more : (m : ℕ) (is : List ℕ) (k d : ℕ) → k < length is → behind m (take (k + 1) is) ≡ get_or is k d + 1
behind_more m [] k d l = absurd (omega arith)
behind_more m (i ∷ is) zero d l = refl
behind_more m (i ∷ is) (suc k) d l =
    let e : suc (k + 1) ≡ suc k + 1 = omega arith in
    subst (λ n. behind m (take n (i ∷ is)) ≡ get_or is k d + 1) e (behind_more (i + 1) is k d (omega arith))

pub record IsNext (P : ℕ → Type 0) (from to n : ℕ) : Type 0 where
  pub behind : from ≤ to
  pub within : to < n
  pub between : (k : ℕ) → from ≤ k → k < to → P k

-- the place of the loop is the next one that isn't left out
pub skips_next : (P : ℕ → Type 0) (m : ℕ) (is : List ℕ) (k d n : ℕ) → Skips P m is n → k < length is → IsNext P (behind m (take k is)) (get_or is k d) n
skips_next P m [] k d n h l = absurd (omega arith)
skips_next P m (i ∷ is) zero d n h l = record { behind = h.0; within = h.1; between = h.2 }
skips_next P m (i ∷ is) (suc k) d n h l = skips_next P (i + 1) is k d n h.3 (omega arith)

-- behind the last place all are left out
pub skips_end : (P : ℕ → Type 0) (m : ℕ) (is : List ℕ) (k n : ℕ) → Skips P m is n → length is ≤ k → (j : ℕ) → behind m (take k is) ≤ j → j < n → P j
skips_end P m [] zero n h l = h
skips_end P m [] (suc k) n h l = h
skips_end P m (i ∷ is) zero n h l = absurd (omega arith)
skips_end P m (i ∷ is) (suc k) n h l = skips_end P (i + 1) is k n h.3 (omega arith)

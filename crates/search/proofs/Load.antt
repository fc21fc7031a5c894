-- What is left to do on a branch: the weights of the formulas that no child of theirs settles, and the branches that
-- they come to. Both fall from a branch to a child's.
use Rattle.std.proofs.Common.{◌≡◌, ℕ, ◌+◌, ◌*◌, ◌≤◌, ◌<◌, Bool, true, false, ◌||◌, cond, refl, ap, subst, List, [], ◌∷◌, ◌++◌, inl, inr, Contains, arith}
use Rattle.std.proofs.lemmas.Nat.{mul-le}
use Rattle.std.proofs.lemmas.Bool.{and_parts, and_from, or_cases, or_left, or_right}
use Rattle.zm_logic.specs.Tree.{Form, Connective}
use Rattle.zm_logic.specs.Same.{same, has}
use Rattle.param_store.specs.RawOffers.{split}
use Rattle.branch.specs.Branch.{add, extend}
use Rattle.branch.specs.Offers.{has_all, has_some}
use Rattle.branch.proofs.Closings.{IsWithin}
use Rattle.search.specs.Need.{weight, leaves_as, leaves, weights, all_leaves}
use Rattle.zm_logic.proofs.Sames.{Contains-cases, Contains-none, has-contains, contains-has, same-self, same-true}

-- a formula is settled where some of its children stands on the branch
abbrev pub settled : List Form → Form → Bool
settled s f = has_some s (split f)

-- what is left to do with the formulas of b, with respect to the branch s
abbrev pub load : List Form → List Form → ℕ
load s [] = 0
load s (f ∷ fs) = cond (settled s f) 0 (weight f) + load s fs

abbrev pub spread : List Form → List Form → ℕ
spread s [] = 1
spread s (f ∷ fs) = cond (settled s f) 1 (leaves f) * spread s fs

-- the same without one formula
abbrev pub spread_but : List Form → Form → List Form → ℕ
spread_but s g [] = 1
spread_but s g (f ∷ fs) = cond (settled s f || same g f) 1 (leaves f) * spread_but s g fs

pub times : (a b : ℕ) → 0 < a → 0 < b → 0 < a * b
times a b h k = let p : 1 * 1 ≤ a * b = mul-le 1 1 a b (omega arith) (omega arith) in omega arith

pub leaves_pos : (v : Bool) (f : Form) → 0 < leaves_as v f
leaves_pos v Form.truth = omega arith
leaves_pos v Form.falsity = omega arith
leaves_pos v (Form.atom p ts us) = omega arith
leaves_pos v (Form.equal t a b) = omega arith
leaves_pos true (Form.negation f) = leaves_pos false f
leaves_pos false (Form.negation f) = leaves_pos true f
leaves_pos true (Form.binary Connective.conjunction f g) = times (leaves_as true f) (leaves_as true g) (leaves_pos true f) (leaves_pos true g)
leaves_pos false (Form.binary Connective.conjunction f g) = let p = leaves_pos false f in omega arith
leaves_pos true (Form.binary Connective.disjunction f g) = let p = leaves_pos true f in omega arith
leaves_pos false (Form.binary Connective.disjunction f g) = times (leaves_as false f) (leaves_as false g) (leaves_pos false f) (leaves_pos false g)
leaves_pos true (Form.binary Connective.implication f g) = let p = leaves_pos false f in omega arith
leaves_pos false (Form.binary Connective.implication f g) = times (leaves_as true f) (leaves_as false g) (leaves_pos true f) (leaves_pos false g)
leaves_pos true (Form.binary Connective.equivalence f g) = let p = times (leaves_as true f) (leaves_as true g) (leaves_pos true f) (leaves_pos true g) in omega arith
leaves_pos false (Form.binary Connective.equivalence f g) = let p = times (leaves_as true f) (leaves_as false g) (leaves_pos true f) (leaves_pos false g) in omega arith
leaves_pos v (Form.quantified q t f) = omega arith
leaves_pos v (Form.quantified_types q f) = omega arith

-- more of the branch settles more
pub all_more : (s s' fs : List Form) → IsWithin s s' → has_all s fs ≡ true → has_all s' fs ≡ true
all_more s s' [] w e = refl
all_more s s' (f ∷ fs) w e =
    let p = and_parts (has s f) (has_all s fs) e in
    and_from (has s' f) (has_all s' fs) (contains-has s' f (w f (has-contains s f p.0))) (all_more s s' fs w p.1)

pub some_more : (s s' : List Form) (cs : List (List Form)) → IsWithin s s' → has_some s cs ≡ true → has_some s' cs ≡ true
some_more s s' [] w e = e
some_more s s' (c ∷ cs) w e =
    elim (or_cases (has_all s c) (has_some s cs) e) [
      | inl i ↦ or_left (has_all s' c) (has_some s' cs) (all_more s s' c w i)
      | inr i ↦ or_right (has_all s' c) (has_some s' cs) (some_more s s' cs w i)
    ]

pub settled_more : (s s' : List Form) (f : Form) → IsWithin s s' → settled s f ≡ true → settled s' f ≡ true
settled_more s s' f w e = some_more s s' (split f) w e

pub factor : (u v : Bool) (n : ℕ) → 0 < n → (u ≡ true → v ≡ true) → cond v 1 n ≤ cond u 1 n
factor true true n p h = omega arith
factor true false n p h = let q = h refl in cc
factor false true n p h = omega arith
factor false false n p h = omega arith

pub summand : (u v : Bool) (n : ℕ) → (u ≡ true → v ≡ true) → cond v 0 n ≤ cond u 0 n
summand true true n h = omega arith
summand true false n h = let q = h refl in cc
summand false true n h = omega arith
summand false false n h = omega arith

pub load_more : (s s' b : List Form) → IsWithin s s' → load s' b ≤ load s b
load_more s s' [] w = omega arith
load_more s s' (f ∷ fs) w =
    let p = summand (settled s f) (settled s' f) (weight f) (settled_more s s' f w) in
    let q = load_more s s' fs w in omega arith

-- acting on a formula
pub load_falls : (s s' b : List Form) (f : Form) → IsWithin s s' → Contains b f → settled s f ≡ false → settled s' f ≡ true → load s' b + weight f ≤ load s b
load_falls s s' [] f w h n y = absurd (Contains-none f h)
load_falls s s' (g ∷ gs) f w h n y =
    elim (Contains-cases g gs f h) [
      | inl e ↦ let k = load_more s s' gs w in
          let u : settled s g ≡ false = rw e n in let v : settled s' g ≡ true = rw e y in
          let x : weight g ≡ weight f = ap weight e in rw (u, v) (omega arith)
      | inr i ↦ let k = load_falls s s' gs f w i n y in
          let p = summand (settled s g) (settled s' g) (weight g) (settled_more s s' g w) in omega arith
    ]

pub load_push : (s b : List Form) (f : Form) → load s (b ++ f ∷ []) ≤ load s b + weight f
load_push s [] f = go (settled s f)
  where
    go : (v : Bool) → cond v 0 (weight f) + 0 ≤ 0 + weight f
    go true = omega arith
    go false = omega arith
load_push s (g ∷ gs) f = let k = load_push s gs f in omega arith

pub load_add : (s b : List Form) (f : Form) → load s (add b f) ≤ load s b + weight f
load_add s b f = go (has b f)
  where
    go : (v : Bool) → load s (cond v b (b ++ f ∷ [])) ≤ load s b + weight f
    go true = omega arith
    go false = load_push s b f

pub load_extend : (s b fs : List Form) → load s (extend b fs) ≤ load s b + weights fs
load_extend s b [] = omega arith
load_extend s b (f ∷ fs) = let p = load_extend s (add b f) fs in let q = load_add s b f in omega arith

pub spread_pos : (s b : List Form) → 0 < spread s b
spread_pos s [] = omega arith
spread_pos s (f ∷ fs) = times (cond (settled s f) 1 (leaves f)) (spread s fs) (go (settled s f)) (spread_pos s fs)
  where
    go : (v : Bool) → 0 < cond v 1 (leaves f)
    go true = omega arith
    go false = leaves_pos true f

pub all_leaves_pos : (fs : List Form) → 0 < all_leaves fs
all_leaves_pos [] = omega arith
all_leaves_pos (f ∷ fs) = times (leaves f) (all_leaves fs) (leaves_pos true f) (all_leaves_pos fs)

-- settled by s', and so is f
pub spread_falls : (s s' b : List Form) (f : Form) → IsWithin s s' → settled s' f ≡ true → spread s' b ≤ spread_but s f b
spread_falls s s' [] f w y = omega arith
spread_falls s s' (g ∷ gs) f w y =
    mul-le (cond (settled s' g) 1 (leaves g)) (spread s' gs) (cond (settled s g || same f g) 1 (leaves g)) (spread_but s f gs)
    (factor (settled s g || same f g) (settled s' g) (leaves g) (leaves_pos true g) (λ e. go e)) (spread_falls s s' gs f w y)
  where
    go : (settled s g || same f g) ≡ true → settled s' g ≡ true
    go e = elim (or_cases (settled s g) (same f g) e) [
      | inl i ↦ settled_more s s' g w i
      | inr i ↦ let P : Form → Type 0 = λ x. settled s' x ≡ true in subst P (same-true f g i) y
    ]

pub spread_but_le : (s b : List Form) (f : Form) → spread_but s f b ≤ spread s b
spread_but_le s [] f = omega arith
spread_but_le s (g ∷ gs) f =
    mul-le (cond (settled s g || same f g) 1 (leaves g)) (spread_but s f gs) (cond (settled s g) 1 (leaves g)) (spread s gs)
    (factor (settled s g) (settled s g || same f g) (leaves g) (leaves_pos true g) (λ e. or_left (settled s g) (same f g) e)) (spread_but_le s gs f)

pub product : (a m l b n : ℕ) → a ≤ b → m * l ≤ n → (a * m) * l ≤ b * n
product a m l b n h k = let p = mul-le a (m * l) b n h k in omega arith

pub spread_but_falls : (s b : List Form) (f : Form) → Contains b f → settled s f ≡ false → spread_but s f b * leaves f ≤ spread s b
spread_but_falls s [] f h n = absurd (Contains-none f h)
spread_but_falls s (g ∷ gs) f h n =
    elim (Contains-cases g gs f h) [
      | inl e ↦ let u : settled s g ≡ false = rw e n in
          let v : same f g ≡ true = rw e (same-self f) in
          let x : leaves g ≡ leaves f = ap leaves e in
          let k = mul-le (leaves f) (spread_but s f gs) (leaves f) (spread s gs) (omega arith) (spread_but_le s gs f) in
          rw (u, v, x) (omega arith)
      | inr i ↦ let k = spread_but_falls s gs f i n in
          let a = cond (settled s g || same f g) 1 (leaves g) in let b = cond (settled s g) 1 (leaves g) in
          let q : a ≤ b = factor (settled s g) (settled s g || same f g) (leaves g) (leaves_pos true g) (λ e. or_left (settled s g) (same f g) e) in
          product a (spread_but s f gs) (leaves f) b (spread s gs) q k
    ]

pub spread_push : (s b : List Form) (f : Form) → spread s (b ++ f ∷ []) ≤ spread s b * leaves f
spread_push s [] f = go (settled s f)
  where
    go : (v : Bool) → cond v 1 (leaves f) * 1 ≤ 1 * leaves f
    go true = let p = leaves_pos true f in omega arith
    go false = omega arith
spread_push s (g ∷ gs) f =
    let a = cond (settled s g) 1 (leaves g) in
    let p = mul-le a (spread s (gs ++ f ∷ [])) a (spread s gs * leaves f) (omega arith) (spread_push s gs f) in omega arith

pub spread_add : (s b : List Form) (f : Form) → spread s (add b f) ≤ spread s b * leaves f
spread_add s b f = go (has b f)
  where
    go : (v : Bool) → spread s (cond v b (b ++ f ∷ [])) ≤ spread s b * leaves f
    go true = let p = mul-le (spread s b) 1 (spread s b) (leaves f) (omega arith) (let q = leaves_pos true f in omega arith) in omega arith
    go false = spread_push s b f

pub spread_extend : (s b fs : List Form) → spread s (extend b fs) ≤ spread s b * all_leaves fs
spread_extend s b [] = omega arith
spread_extend s b (f ∷ fs) =
    let p = spread_extend s (add b f) fs in
    let q = mul-le (spread s (add b f)) (all_leaves fs) (spread s b * leaves f) (all_leaves fs) (spread_add s b f) (omega arith) in omega arith

-- The tests for equal types, and for equal metavariables, decide them.
use Rattle.std.proofs.Common.{ℕ, ◌≡◌, ◌==◌, ◌&&◌, ◌⊎◌, inl, inr, Bool, true, false, refl, ap}
use Rattle.std.proofs.lemmas.Bool.Decides.{eqb_tells}
use Rattle.zm_logic.specs.Tree.{Ty, Tys, Term}
use Rattle.zm_logic.specs.Same.{same_type, same_types}

-- the test b decides A
abbrev pub Tells : Bool → Type 0 → Type 0
Tells b A = ((b ≡ true) × A) ⊎ ((b ≡ false) × (A → ⊥))

-- a test by a test, where the facts follow from each other
pub tells_by : {A B : Type 0} (b : Bool) → (A → B) → (B → A) → Tells b A → Tells b B
tells_by b f g h = elim h [ inl x ↦ inl (x.0, f x.1) | inr x ↦ inr (x.0, λ y. x.1 (g y)) ]

-- a test of two facts
tells_both : {A B C : Type 0} (b c : Bool) → (A → B → C) → (C → A) → (C → B) → Tells b A → Tells c B → Tells (b && c) C
tells_both b c make first second (inl x) (inl y) = inl (rw (x.0, y.0) refl, make x.1 y.1)
tells_both b c make first second (inl x) (inr y) = inr (rw (x.0, y.0) refl, λ z. y.1 (second z))
tells_both b c make first second (inr x) y = inr (rw x.0 refl, λ z. x.1 (first z))

mutual
  pub same_type_tells : (s t : Ty) → Tells (same_type s t) (s ≡ t)
  same_type_tells (Ty.bound i) (Ty.bound j) = tells_by (i == j) (ap Ty.bound) (λ e. cc) (eqb_tells i j)
  same_type_tells (Ty.param i) (Ty.param j) = tells_by (i == j) (ap Ty.param) (λ e. cc) (eqb_tells i j)
  same_type_tells (Ty.meta i) (Ty.meta j) = tells_by (i == j) (ap Ty.meta) (λ e. cc) (eqb_tells i j)
  same_type_tells (Ty.con c ss) (Ty.con d ts) =
      tells_both (c == d) (same_types ss ts) (λ e f. cc) (λ e. cc) (λ e. cc) (eqb_tells c d) (same_types_tell ss ts)
  same_type_tells _ _ = inr (refl, λ e. cc)

  pub same_types_tell : (ss ts : Tys) → Tells (same_types ss ts) (ss ≡ ts)
  same_types_tell Tys.none Tys.none = inl (refl, refl)
  same_types_tell (Tys.more s ss) (Tys.more t ts) =
      tells_both (same_type s t) (same_types ss ts) (λ e f. cc) (λ e. cc) (λ e. cc) (same_type_tells s t) (same_types_tell ss ts)
  same_types_tell _ _ = inr (refl, λ e. cc)

pub same_meta_tells : (n m : ℕ) (t k : Ty) → Tells ((n == m) && same_type t k) (Term.meta n t ≡ Term.meta m k)
same_meta_tells n m t k = tells_both (n == m) (same_type t k) (λ e f. cc) (λ e. cc) (λ e. cc) (eqb_tells n m) (same_type_tells t k)

-- Scoped terms from typed ones; contexts whose variables are numbered from 0.
use Rattle.std.proofs.Common.{ℕ, ◌≡◌, ◌≤◌, ◌<◌, ◌⊎◌, inl, inr, refl, arith}
use Rattle.lp_terms.specs.Term.{Lp, IsClosedAt, IsFresh}
use Rattle.lp_terms.specs.Term as lp
use Rattle.lp_terms.specs.Typing.{Context, IsUnbound}
use Rattle.lp_reduce.specs.Scope.{IsScoped}
use Rattle.lp_reduce.specs.Scope as sc
use Rattle.dk_checker.specs.Asking.{depth}

scoped_variable : (n k m : ℕ) → (n ≤ m → IsFresh m (Lp.free m)) → (m < n) ⊎ (n ≤ m) → IsScoped n k (Lp.free m)
scoped_variable n k m f d = elim d [ inl h ↦ sc.IsScoped.free h | inr h ↦ absurd (not_itself m (f h)) ]
  where
    not_itself : (n : ℕ) → IsFresh n (Lp.free n) → ⊥
    not_itself n (lp.IsFresh.free d) = d refl

either_way : (m n : ℕ) → (m < n) ⊎ (n ≤ m)
either_way m n = grind arith

fresh_app_left : {x : ℕ} {f a : Lp} → IsFresh x (Lp.app f a) → IsFresh x f
fresh_app_left (lp.IsFresh.app c d) = c

fresh_app_right : {x : ℕ} {f a : Lp} → IsFresh x (Lp.app f a) → IsFresh x a
fresh_app_right (lp.IsFresh.app c d) = d

fresh_abs_left : {x : ℕ} {f a : Lp} → IsFresh x (Lp.abs f a) → IsFresh x f
fresh_abs_left (lp.IsFresh.abs c d) = c

fresh_abs_right : {x : ℕ} {f a : Lp} → IsFresh x (Lp.abs f a) → IsFresh x a
fresh_abs_right (lp.IsFresh.abs c d) = d

fresh_prod_left : {x : ℕ} {f a : Lp} → IsFresh x (Lp.prod f a) → IsFresh x f
fresh_prod_left (lp.IsFresh.prod c d) = c

fresh_prod_right : {x : ℕ} {f a : Lp} → IsFresh x (Lp.prod f a) → IsFresh x a
fresh_prod_right (lp.IsFresh.prod c d) = d

pub scoped_of : {n k : ℕ} {t : Lp} → IsClosedAt k t → ((x : ℕ) → n ≤ x → IsFresh x t) → IsScoped n k t
scoped_of lp.IsClosedAt.sort f = sc.IsScoped.sort
scoped_of lp.IsClosedAt.const f = sc.IsScoped.const
scoped_of {n} (lp.IsClosedAt.free {k = k} {n = m}) f = scoped_variable n k m (f m) (either_way m n)
scoped_of (lp.IsClosedAt.index b) f = sc.IsScoped.index b
scoped_of (lp.IsClosedAt.app c d) f = sc.IsScoped.app (scoped_of c (λ x h. fresh_app_left (f x h))) (scoped_of d (λ x h. fresh_app_right (f x h)))
scoped_of (lp.IsClosedAt.abs c d) f = sc.IsScoped.abs (scoped_of c (λ x h. fresh_abs_left (f x h))) (scoped_of d (λ x h. fresh_abs_right (f x h)))
scoped_of (lp.IsClosedAt.prod c d) f = sc.IsScoped.prod (scoped_of c (λ x h. fresh_prod_left (f x h))) (scoped_of d (λ x h. fresh_prod_right (f x h)))

-- the variables are numbered from 0, the outermost first
abbrev pub IsNumbered : Context → Type 0
IsNumbered Context.empty = Unit {0}
IsNumbered (Context.bind n type g) = (n ≡ depth g) × IsNumbered g

pub not_bound : (g : Context) (x : ℕ) → IsNumbered g → depth g ≤ x → IsUnbound x g
not_bound Context.empty x i h = tt
not_bound (Context.bind n type g) x i h = ((let e : n ≡ depth g = i.0 in omega arith), not_bound g x i.1 (omega arith))

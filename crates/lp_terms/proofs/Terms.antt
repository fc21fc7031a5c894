-- Opening, closing and substitution.
use Rattle.std.proofs.Common.{ℕ, suc, ◌≡◌, ◌≤◌, ◌≢◌, Bool, true, false, cond, ◌==◌, refl, sym, ap, ap₂, ◌∙◌, arith}
use Rattle.lp_terms.specs.Term.{Lp, opened, open_at, closed, close_at, substitute, only, IsClosed, IsClosedAt, IsFresh}
use Rattle.lp_terms.specs.Term as lp

pub same_number : (n : ℕ) → (n == n) ≡ true
same_number n = grind arith

pub other_number : (i k : ℕ) → i ≢ k → (i == k) ≡ false
other_number i k h = grind arith

pub at_same : (k : ℕ) (u v : Lp) → cond (k == k) u v ≡ u
at_same k u v = rw (same_number k) refl

pub at_other : (i k : ℕ) (u v : Lp) → i ≢ k → cond (i == k) u v ≡ v
at_other i k u v h = rw (other_number i k h) refl

-- a closed term has nothing to open
pub open_closed : {k : ℕ} {t : Lp} (j : ℕ) (u : Lp) → IsClosedAt k t → k ≤ j → open_at j u t ≡ t
open_closed j u lp.IsClosedAt.sort h = refl
open_closed j u lp.IsClosedAt.const h = refl
open_closed j u lp.IsClosedAt.free h = refl
open_closed j u (lp.IsClosedAt.index {i = i} below) h = at_other i j u (Lp.index i) (omega arith)
open_closed j u (lp.IsClosedAt.app f a) h = ap₂ Lp.app (open_closed j u f h) (open_closed j u a h)
open_closed j u (lp.IsClosedAt.abs a b) h = ap₂ Lp.abs (open_closed j u a h) (open_closed (suc j) u b (omega arith))
open_closed j u (lp.IsClosedAt.prod a b) h = ap₂ Lp.prod (open_closed j u a h) (open_closed (suc j) u b (omega arith))

pub closed_up : {k : ℕ} {t : Lp} (j : ℕ) → IsClosedAt k t → k ≤ j → IsClosedAt j t
closed_up j lp.IsClosedAt.sort h = lp.IsClosedAt.sort
closed_up j lp.IsClosedAt.const h = lp.IsClosedAt.const
closed_up j lp.IsClosedAt.free h = lp.IsClosedAt.free
closed_up j (lp.IsClosedAt.index below) h = lp.IsClosedAt.index (omega arith)
closed_up j (lp.IsClosedAt.app f a) h = lp.IsClosedAt.app (closed_up j f h) (closed_up j a h)
closed_up j (lp.IsClosedAt.abs a b) h = lp.IsClosedAt.abs (closed_up j a h) (closed_up (suc j) b (omega arith))
closed_up j (lp.IsClosedAt.prod a b) h = lp.IsClosedAt.prod (closed_up j a h) (closed_up (suc j) b (omega arith))

substitute_cond : (s : ℕ → Lp) (b : Bool) (u v : Lp) → substitute s (cond b u v) ≡ cond b (substitute s u) (substitute s v)
substitute_cond s true u v = refl
substitute_cond s false u v = refl

-- a term stays closed where closed terms are put for its free variables
pub substitute_closed : {k : ℕ} {t : Lp} (s : ℕ → Lp) → ((n : ℕ) → IsClosed (s n)) → IsClosedAt k t → IsClosedAt k (substitute s t)
substitute_closed s c lp.IsClosedAt.sort = lp.IsClosedAt.sort
substitute_closed s c lp.IsClosedAt.const = lp.IsClosedAt.const
substitute_closed s c (lp.IsClosedAt.free {k = k} {n = n}) = closed_up k (c n) (omega arith)
substitute_closed s c (lp.IsClosedAt.index below) = lp.IsClosedAt.index below
substitute_closed s c (lp.IsClosedAt.app f a) = lp.IsClosedAt.app (substitute_closed s c f) (substitute_closed s c a)
substitute_closed s c (lp.IsClosedAt.abs a b) = lp.IsClosedAt.abs (substitute_closed s c a) (substitute_closed s c b)
substitute_closed s c (lp.IsClosedAt.prod a b) = lp.IsClosedAt.prod (substitute_closed s c a) (substitute_closed s c b)

-- opening commutes with substitution
pub substitute_open : (s : ℕ → Lp) → ((n : ℕ) → IsClosed (s n)) → (k : ℕ) (u t : Lp) →
    substitute s (open_at k u t) ≡ open_at k (substitute s u) (substitute s t)
substitute_open s c k u Lp.sort = refl
substitute_open s c k u (Lp.const name) = refl
substitute_open s c k u (Lp.free n) = sym (open_closed k (substitute s u) (c n) (omega arith))
substitute_open s c k u (Lp.index i) = substitute_cond s (i == k) u (Lp.index i)
substitute_open s c k u (Lp.app f a) = ap₂ Lp.app (substitute_open s c k u f) (substitute_open s c k u a)
substitute_open s c k u (Lp.abs a b) = ap₂ Lp.abs (substitute_open s c k u a) (substitute_open s c (suc k) u b)
substitute_open s c k u (Lp.prod a b) = ap₂ Lp.prod (substitute_open s c k u a) (substitute_open s c (suc k) u b)

open_cond : (k : ℕ) (u : Lp) (b : Bool) (v w : Lp) → open_at k u (cond b v w) ≡ cond b (open_at k u v) (open_at k u w)
open_cond k u true v w = refl
open_cond k u false v w = refl

-- closing and opening again substitutes
pub open_close : {k : ℕ} {t : Lp} (x : ℕ) (u : Lp) → IsClosedAt k t → open_at k u (close_at k x t) ≡ substitute (only x u) t
open_close x u lp.IsClosedAt.sort = refl
open_close x u lp.IsClosedAt.const = refl
open_close x u (lp.IsClosedAt.free {k = k} {n = n}) =
    open_cond k u (n == x) (Lp.index k) (Lp.free n) ∙ ap (λ w. cond (n == x) w (Lp.free n)) (at_same k u (Lp.index k))
open_close x u (lp.IsClosedAt.index {k = k} {i = i} below) = at_other i k u (Lp.index i) (omega arith)
open_close x u (lp.IsClosedAt.app f a) = ap₂ Lp.app (open_close x u f) (open_close x u a)
open_close x u (lp.IsClosedAt.abs a b) = ap₂ Lp.abs (open_close x u a) (open_close x u b)
open_close x u (lp.IsClosedAt.prod a b) = ap₂ Lp.prod (open_close x u a) (open_close x u b)

-- a variable that does not occur
pub substitute_fresh : {x : ℕ} {t : Lp} (u : Lp) → IsFresh x t → substitute (only x u) t ≡ t
substitute_fresh u lp.IsFresh.sort = refl
substitute_fresh u lp.IsFresh.const = refl
substitute_fresh u (lp.IsFresh.free {x = x} {n = n} h) = at_other n x u (Lp.free n) h
substitute_fresh u lp.IsFresh.index = refl
substitute_fresh u (lp.IsFresh.app f a) = ap₂ Lp.app (substitute_fresh u f) (substitute_fresh u a)
substitute_fresh u (lp.IsFresh.abs a b) = ap₂ Lp.abs (substitute_fresh u a) (substitute_fresh u b)
substitute_fresh u (lp.IsFresh.prod a b) = ap₂ Lp.prod (substitute_fresh u a) (substitute_fresh u b)

pub close_fresh : {x : ℕ} {t : Lp} (k : ℕ) → IsFresh x t → close_at k x t ≡ t
close_fresh k lp.IsFresh.sort = refl
close_fresh k lp.IsFresh.const = refl
close_fresh k (lp.IsFresh.free {x = x} {n = n} h) = at_other n x (Lp.index k) (Lp.free n) h
close_fresh k lp.IsFresh.index = refl
close_fresh k (lp.IsFresh.app f a) = ap₂ Lp.app (close_fresh k f) (close_fresh k a)
close_fresh k (lp.IsFresh.abs a b) = ap₂ Lp.abs (close_fresh k a) (close_fresh (suc k) b)
close_fresh k (lp.IsFresh.prod a b) = ap₂ Lp.prod (close_fresh k a) (close_fresh (suc k) b)

-- what opening with a variable says of the body
closed_index : (k n i : ℕ) (b : Bool) → (b ≡ true → i ≡ k) → IsClosedAt k (cond b (Lp.free n) (Lp.index i)) → IsClosedAt (suc k) (Lp.index i)
closed_index k n i true e c = lp.IsClosedAt.index (rw (e refl) (omega arith))
closed_index k n i false e (lp.IsClosedAt.index below) = lp.IsClosedAt.index (omega arith)

pub same_of_test : (i k : ℕ) → (i == k) ≡ true → i ≡ k
same_of_test i k h = grind arith

pub closed_body : (k n : ℕ) (t : Lp) → IsClosedAt k (open_at k (Lp.free n) t) → IsClosedAt (suc k) t
closed_body k n Lp.sort c = lp.IsClosedAt.sort
closed_body k n (Lp.const name) c = lp.IsClosedAt.const
closed_body k n (Lp.free m) c = lp.IsClosedAt.free
closed_body k n (Lp.index i) c = closed_index k n i (i == k) (same_of_test i k) c
closed_body k n (Lp.app f a) (lp.IsClosedAt.app c d) = lp.IsClosedAt.app (closed_body k n f c) (closed_body k n a d)
closed_body k n (Lp.abs a b) (lp.IsClosedAt.abs c d) = lp.IsClosedAt.abs (closed_body k n a c) (closed_body (suc k) n b d)
closed_body k n (Lp.prod a b) (lp.IsClosedAt.prod c d) = lp.IsClosedAt.prod (closed_body k n a c) (closed_body (suc k) n b d)

pub fresh_body : (x k : ℕ) (u t : Lp) → IsFresh x (open_at k u t) → IsFresh x t
fresh_body x k u Lp.sort c = lp.IsFresh.sort
fresh_body x k u (Lp.const name) c = lp.IsFresh.const
fresh_body x k u (Lp.free m) c = c
fresh_body x k u (Lp.index i) c = lp.IsFresh.index
fresh_body x k u (Lp.app f a) (lp.IsFresh.app c d) = lp.IsFresh.app (fresh_body x k u f c) (fresh_body x k u a d)
fresh_body x k u (Lp.abs a b) (lp.IsFresh.abs c d) = lp.IsFresh.abs (fresh_body x k u a c) (fresh_body x (suc k) u b d)
fresh_body x k u (Lp.prod a b) (lp.IsFresh.prod c d) = lp.IsFresh.prod (fresh_body x k u a c) (fresh_body x (suc k) u b d)

-- substituting a variable for itself
pub substitute_free : (t : Lp) → substitute Lp.free t ≡ t
substitute_free Lp.sort = refl
substitute_free (Lp.const name) = refl
substitute_free (Lp.free n) = refl
substitute_free (Lp.index i) = refl
substitute_free (Lp.app f a) = ap₂ Lp.app (substitute_free f) (substitute_free a)
substitute_free (Lp.abs a b) = ap₂ Lp.abs (substitute_free a) (substitute_free b)
substitute_free (Lp.prod a b) = ap₂ Lp.prod (substitute_free a) (substitute_free b)

-- nothing free
pub substitute_none : (s : ℕ → Lp) (t : Lp) → ((x : ℕ) → IsFresh x t) → substitute s t ≡ t
substitute_none s Lp.sort h = refl
substitute_none s (Lp.const name) h = refl
substitute_none s (Lp.free n) h = absurd (not_itself n (h n))
  where
    not_itself : (n : ℕ) → IsFresh n (Lp.free n) → ⊥
    not_itself n (lp.IsFresh.free d) = d refl
substitute_none s (Lp.index i) h = refl
substitute_none s (Lp.app f a) h = ap₂ Lp.app (substitute_none s f (λ x. first (h x))) (substitute_none s a (λ x. second (h x)))
  where
    first : {x : ℕ} {f a : Lp} → IsFresh x (Lp.app f a) → IsFresh x f
    first (lp.IsFresh.app c d) = c

    second : {x : ℕ} {f a : Lp} → IsFresh x (Lp.app f a) → IsFresh x a
    second (lp.IsFresh.app c d) = d
substitute_none s (Lp.abs a b) h = ap₂ Lp.abs (substitute_none s a (λ x. first (h x))) (substitute_none s b (λ x. second (h x)))
  where
    first : {x : ℕ} {f a : Lp} → IsFresh x (Lp.abs f a) → IsFresh x f
    first (lp.IsFresh.abs c d) = c

    second : {x : ℕ} {f a : Lp} → IsFresh x (Lp.abs f a) → IsFresh x a
    second (lp.IsFresh.abs c d) = d
substitute_none s (Lp.prod a b) h = ap₂ Lp.prod (substitute_none s a (λ x. first (h x))) (substitute_none s b (λ x. second (h x)))
  where
    first : {x : ℕ} {f a : Lp} → IsFresh x (Lp.prod f a) → IsFresh x f
    first (lp.IsFresh.prod c d) = c

    second : {x : ℕ} {f a : Lp} → IsFresh x (Lp.prod f a) → IsFresh x a
    second (lp.IsFresh.prod c d) = d

-- Scoped terms under opening, closing and instances.
use Rattle.std.proofs.Common.{ℕ, suc, ◌≡◌, ◌≤◌, ◌<◌, ◌≢◌, ◌+◌, List, [], ◌∷◌, length, Bool, true, false, cond, ◌==◌, refl, sym, ap, ap₂, ◌∙◌, subst, arith}
use Rattle.lp_terms.specs.Term.{Lp, opened, open_at, closed, close_at, substitute, only, IsClosed, IsClosedAt, IsFresh}
use Rattle.lp_terms.specs.Term as lp
use Rattle.lp_terms.specs.Reduction.{instance_at, AreClosed}
use Rattle.lp_terms.specs.Signature.{Entry, EntryHasNoFree, HaveNoFree, SignatureHasNoFree}
use Rattle.lp_reduce.specs.Scope.{IsScoped, AreScopedTypes, IsScopedEntry, IsScopedSignature}
use Rattle.lp_reduce.specs.Scope as sc
use Rattle.lp_terms.proofs.Terms.{at_same, at_other, same_of_test, open_close, substitute_fresh}

pub scoped_closed : {n k : ℕ} {t : Lp} → IsScoped n k t → IsClosedAt k t
scoped_closed sc.IsScoped.sort = lp.IsClosedAt.sort
scoped_closed sc.IsScoped.const = lp.IsClosedAt.const
scoped_closed (sc.IsScoped.free b) = lp.IsClosedAt.free
scoped_closed (sc.IsScoped.index b) = lp.IsClosedAt.index b
scoped_closed (sc.IsScoped.app f a) = lp.IsClosedAt.app (scoped_closed f) (scoped_closed a)
scoped_closed (sc.IsScoped.abs a t) = lp.IsClosedAt.abs (scoped_closed a) (scoped_closed t)
scoped_closed (sc.IsScoped.prod a t) = lp.IsClosedAt.prod (scoped_closed a) (scoped_closed t)

pub scoped_fresh : {n k : ℕ} {t : Lp} (x : ℕ) → n ≤ x → IsScoped n k t → IsFresh x t
scoped_fresh x h sc.IsScoped.sort = lp.IsFresh.sort
scoped_fresh x h sc.IsScoped.const = lp.IsFresh.const
scoped_fresh x h (sc.IsScoped.free b) = lp.IsFresh.free (omega arith)
scoped_fresh x h (sc.IsScoped.index b) = lp.IsFresh.index
scoped_fresh x h (sc.IsScoped.app f a) = lp.IsFresh.app (scoped_fresh x h f) (scoped_fresh x h a)
scoped_fresh x h (sc.IsScoped.abs a t) = lp.IsFresh.abs (scoped_fresh x h a) (scoped_fresh x h t)
scoped_fresh x h (sc.IsScoped.prod a t) = lp.IsFresh.prod (scoped_fresh x h a) (scoped_fresh x h t)

pub scoped_more : {n k : ℕ} {t : Lp} (m j : ℕ) → n ≤ m → k ≤ j → IsScoped n k t → IsScoped m j t
scoped_more m j h i sc.IsScoped.sort = sc.IsScoped.sort
scoped_more m j h i sc.IsScoped.const = sc.IsScoped.const
scoped_more m j h i (sc.IsScoped.free b) = sc.IsScoped.free (omega arith)
scoped_more m j h i (sc.IsScoped.index b) = sc.IsScoped.index (omega arith)
scoped_more m j h i (sc.IsScoped.app f a) = sc.IsScoped.app (scoped_more m j h i f) (scoped_more m j h i a)
scoped_more m j h i (sc.IsScoped.abs a t) = sc.IsScoped.abs (scoped_more m j h i a) (scoped_more m (suc j) h (omega arith) t)
scoped_more m j h i (sc.IsScoped.prod a t) = sc.IsScoped.prod (scoped_more m j h i a) (scoped_more m (suc j) h (omega arith) t)

open_index : (n k i : ℕ) (u : Lp) (b : Bool) → (b ≡ false → i ≢ k) → i < suc k → IsScoped n k u → IsScoped n k (cond b u (Lp.index i))
open_index n k i u true e h s = s
open_index n k i u false e h s = sc.IsScoped.index (let d : i ≢ k = e refl in omega arith)

pub other_of_test : (i k : ℕ) → (i == k) ≡ false → i ≢ k
other_of_test i k h = grind arith

pub scoped_open : {n k : ℕ} {t : Lp} (u : Lp) → IsScoped n (suc k) t → IsScoped n 0 u → IsScoped n k (open_at k u t)
scoped_open u t s = go _ _ _ u t s
  where
    go : (n k : ℕ) (t u : Lp) → IsScoped n (suc k) t → IsScoped n 0 u → IsScoped n k (open_at k u t)
    go n k Lp.sort u h s = sc.IsScoped.sort
    go n k (Lp.const name) u h s = sc.IsScoped.const
    go n k (Lp.free m) u (sc.IsScoped.free b) s = sc.IsScoped.free b
    go n k (Lp.index i) u (sc.IsScoped.index b) s = open_index n k i u (i == k) (other_of_test i k) b (scoped_more n k (omega arith) (omega arith) s)
    go n k (Lp.app f a) u (sc.IsScoped.app h i) s = sc.IsScoped.app (go n k f u h s) (go n k a u i s)
    go n k (Lp.abs a t) u (sc.IsScoped.abs h i) s = sc.IsScoped.abs (go n k a u h s) (go n (suc k) t u i s)
    go n k (Lp.prod a t) u (sc.IsScoped.prod h i) s = sc.IsScoped.prod (go n k a u h s) (go n (suc k) t u i s)

close_free : (n k m : ℕ) (b : Bool) → (b ≡ false → m ≢ n) → m < suc n → IsScoped n (suc k) (cond b (Lp.index k) (Lp.free m))
close_free n k m true e h = sc.IsScoped.index (omega arith)
close_free n k m false e h = sc.IsScoped.free (let d : m ≢ n = e refl in omega arith)

pub scoped_close : (n k : ℕ) (t : Lp) → IsScoped (suc n) k t → IsScoped n (suc k) (close_at k n t)
scoped_close n k Lp.sort h = sc.IsScoped.sort
scoped_close n k (Lp.const name) h = sc.IsScoped.const
scoped_close n k (Lp.free m) (sc.IsScoped.free b) = close_free n k m (m == n) (other_of_test m n) b
scoped_close n k (Lp.index i) (sc.IsScoped.index b) = sc.IsScoped.index (omega arith)
scoped_close n k (Lp.app f a) (sc.IsScoped.app h i) = sc.IsScoped.app (scoped_close n k f h) (scoped_close n k a i)
scoped_close n k (Lp.abs a t) (sc.IsScoped.abs h i) = sc.IsScoped.abs (scoped_close n k a h) (scoped_close n (suc k) t i)
scoped_close n k (Lp.prod a t) (sc.IsScoped.prod h i) = sc.IsScoped.prod (scoped_close n k a h) (scoped_close n (suc k) t i)

-- each of the terms is scoped and has no loose index
abbrev pub AreTerms : ℕ → List Lp → Type 0
AreTerms n [] = Unit {0}
AreTerms n (u ∷ us) = IsScoped n 0 u × AreTerms n us

pub terms_closed : (n : ℕ) (us : List Lp) → AreTerms n us → AreClosed us
terms_closed n [] a = tt
terms_closed n (u ∷ us) a = (scoped_closed a.0, terms_closed n us a.1)

pub scoped_instance : (n k : ℕ) (us : List Lp) (t : Lp) → IsScoped n (k + length us) t → AreTerms n us → IsScoped n k (instance_at k us t)
scoped_instance n k [] t h s = scoped_more n k (omega arith) (omega arith) h
scoped_instance n k (u ∷ us) t h s = scoped_open u (scoped_instance n (suc k) us t (scoped_more n (suc k + length us) (omega arith) (omega arith) h) s.1) s.0

-- instances go into the parts
pub instance_app : (k : ℕ) (us : List Lp) (f a : Lp) → instance_at k us (Lp.app f a) ≡ Lp.app (instance_at k us f) (instance_at k us a)
instance_app k [] f a = refl
instance_app k (u ∷ us) f a = ap (open_at k u) (instance_app (suc k) us f a)

pub instance_abs : (k : ℕ) (us : List Lp) (a t : Lp) → instance_at k us (Lp.abs a t) ≡ Lp.abs (instance_at k us a) (instance_at (suc k) us t)
instance_abs k [] a t = refl
instance_abs k (u ∷ us) a t = ap (open_at k u) (instance_abs (suc k) us a t)

pub instance_prod : (k : ℕ) (us : List Lp) (a t : Lp) → instance_at k us (Lp.prod a t) ≡ Lp.prod (instance_at k us a) (instance_at (suc k) us t)
instance_prod k [] a t = refl
instance_prod k (u ∷ us) a t = ap (open_at k u) (instance_prod (suc k) us a t)

pub instance_const : (k : ℕ) (us : List Lp) (name : List ℕ) → instance_at k us (Lp.const name) ≡ Lp.const name
instance_const k [] name = refl
instance_const k (u ∷ us) name = ap (open_at k u) (instance_const (suc k) us name)

pub instance_sort : (k : ℕ) (us : List Lp) → instance_at k us Lp.sort ≡ Lp.sort
instance_sort k [] = refl
instance_sort k (u ∷ us) = ap (open_at k u) (instance_sort (suc k) us)

pub instance_free : (k : ℕ) (us : List Lp) (n : ℕ) → instance_at k us (Lp.free n) ≡ Lp.free n
instance_free k [] n = refl
instance_free k (u ∷ us) n = ap (open_at k u) (instance_free (suc k) us n)

-- a closed body opened again
substitute_same : (n m : ℕ) (b : Bool) → (b ≡ true → m ≡ n) → cond b (Lp.free n) (Lp.free m) ≡ Lp.free m
substitute_same n m true e = ap Lp.free (sym (e refl))
substitute_same n m false e = refl

substitute_itself : (n : ℕ) (t : Lp) → substitute (only n (Lp.free n)) t ≡ t
substitute_itself n Lp.sort = refl
substitute_itself n (Lp.const name) = refl
substitute_itself n (Lp.free m) = substitute_same n m (m == n) (same_of_test m n)
substitute_itself n (Lp.index i) = refl
substitute_itself n (Lp.app f a) = ap₂ Lp.app (substitute_itself n f) (substitute_itself n a)
substitute_itself n (Lp.abs a t) = ap₂ Lp.abs (substitute_itself n a) (substitute_itself n t)
substitute_itself n (Lp.prod a t) = ap₂ Lp.prod (substitute_itself n a) (substitute_itself n t)

pub open_closing : {t : Lp} (n : ℕ) → IsClosed t → opened (closed n t) (Lp.free n) ≡ t
open_closing {t} n c = open_close n (Lp.free n) c ∙ substitute_itself n t

-- a closed opening
closed_index : (k x i : ℕ) (b : Bool) → (b ≡ true → i ≡ k) → close_at k x (cond b (Lp.free x) (Lp.index i)) ≡ Lp.index i
closed_index k x i true e = at_same x (Lp.index k) (Lp.free x) ∙ ap Lp.index (sym (e refl))
closed_index k x i false e = refl

pub close_opening : (k x : ℕ) {t : Lp} → IsFresh x t → close_at k x (open_at k (Lp.free x) t) ≡ t
close_opening k x lp.IsFresh.sort = refl
close_opening k x lp.IsFresh.const = refl
close_opening k x (lp.IsFresh.free {n = n} h) = at_other n x (Lp.index k) (Lp.free n) h
close_opening k x (lp.IsFresh.index {i = i}) = closed_index k x i (i == k) (same_of_test i k)
close_opening k x (lp.IsFresh.app f a) = ap₂ Lp.app (close_opening k x f) (close_opening k x a)
close_opening k x (lp.IsFresh.abs f a) = ap₂ Lp.abs (close_opening k x f) (close_opening (suc k) x a)
close_opening k x (lp.IsFresh.prod f a) = ap₂ Lp.prod (close_opening k x f) (close_opening (suc k) x a)

-- a scoped signature has no free variable
types_no_free : (k : ℕ) (types : List Lp) → AreScopedTypes k types → HaveNoFree types
types_no_free k [] s = tt
types_no_free k (type ∷ types) s = ((λ x. scoped_fresh x (omega arith) s.0), types_no_free (suc k) types s.1)

pub entry_no_free : (e : Entry) → IsScopedEntry e → EntryHasNoFree e
entry_no_free (Entry.declare name definable type) s = λ x. scoped_fresh x (omega arith) s
entry_no_free (Entry.rule context left right) s =
    (types_no_free 0 context s.0, (λ x. scoped_fresh x (omega arith) s.1), (λ x. scoped_fresh x (omega arith) s.2))
entry_no_free (Entry.define name type body) s = ((λ x. scoped_fresh x (omega arith) s.0), (λ x. scoped_fresh x (omega arith) s.1))

pub signature_no_free : (sigma : List Entry) → IsScopedSignature sigma → SignatureHasNoFree sigma
signature_no_free sigma w e h = entry_no_free e (w e h)

-- Typed terms are closed and hold no variable that the context doesn't bind; binders by one fresh variable.
use Rattle.std.proofs.Common.{ℕ, suc, ◌≡◌, ◌≢◌, max, List, Bool, true, false, cond, ◌==◌, refl, sym, subst, subst₂, arith}
use Rattle.lp_terms.specs.Term.{Lp, opened, open_at, closed, close_at, substitute, only, IsClosed, IsClosedAt, IsFresh}
use Rattle.lp_terms.specs.Term as lp
use Rattle.lp_terms.specs.Signature.{Entry, SignatureHasNoFree}
use Rattle.lp_terms.specs.Typing.{Context, Binds, IsUnbound, IsNew, Class, IsSort, Has, substitute_class}
use Rattle.lp_terms.specs.Typing as ty
use Rattle.lp_terms.proofs.Terms.{open_closed, open_close, substitute_fresh, close_fresh, closed_body, fresh_body, at_same, at_other}
use Rattle.lp_terms.proofs.Substitution.{weaken_bind, Substitution, has_substitute, Fits}

pub typed_closed : {sigma : List Entry} {g : Context} {t : Lp} {c : Class} → Has sigma g t c → IsClosed t
typed_closed ty.Has.sort = lp.IsClosedAt.sort
typed_closed (ty.Has.constant d) = lp.IsClosedAt.const
typed_closed (ty.Has.variable b) = lp.IsClosedAt.free
typed_closed (ty.Has.product {codomain = b} bound p f i) = lp.IsClosedAt.prod (typed_closed p) (closed_body 0 bound b (typed_closed (f bound (omega arith))))
typed_closed (ty.Has.abstraction {body = t} bound f p i) = closed_abs (typed_closed p) (closed_body 0 bound t (typed_closed (f bound (omega arith))))
  where
    closed_abs : {a b u : Lp} → IsClosed (Lp.prod a b) → IsClosedAt 1 u → IsClosed (Lp.abs a u)
    closed_abs (lp.IsClosedAt.prod c d) e = lp.IsClosedAt.abs c e
typed_closed (ty.Has.application p q) = lp.IsClosedAt.app (typed_closed p) (typed_closed q)
typed_closed (ty.Has.conversion p e q i) = typed_closed p

-- what occurs nowhere in the context is no variable of it
pub new_not_bound : (x : ℕ) (g : Context) → IsNew x g → IsUnbound x g
new_not_bound x Context.empty h = tt
new_not_bound x (Context.bind n type g) h = (h.0, new_not_bound x g h.2)

pub bound_other : {g : Context} {n : ℕ} {type : Lp} (x : ℕ) → IsUnbound x g → Binds g n type → n ≢ x
bound_other x h ty.Binds.here = h.0
bound_other x h (ty.Binds.outside b) = bound_other x h.1 b

pub bound_fresh : {g : Context} {n : ℕ} {type : Lp} (x : ℕ) → IsNew x g → Binds g n type → IsFresh x type
bound_fresh x h ty.Binds.here = h.1
bound_fresh x h (ty.Binds.outside b) = bound_fresh x h.2 b

pub typed_fresh : {sigma : List Entry} {g : Context} {t : Lp} {c : Class} (x : ℕ) → IsUnbound x g → Has sigma g t c → IsFresh x t
typed_fresh x h ty.Has.sort = lp.IsFresh.sort
typed_fresh x h (ty.Has.constant d) = lp.IsFresh.const
typed_fresh x h (ty.Has.variable b) = lp.IsFresh.free (bound_other x h b)
typed_fresh x h (ty.Has.product {codomain = b} bound p f i) =
    let n : ℕ = max bound (suc x) in
    lp.IsFresh.prod (typed_fresh x h p) (fresh_body x 0 (Lp.free n) b (typed_fresh x (omega arith, h) (f n (omega arith))))
typed_fresh x h (ty.Has.abstraction {body = t} bound f p i) =
    let n : ℕ = max bound (suc x) in
    fresh_abs (typed_fresh x h p) (fresh_body x 0 (Lp.free n) t (typed_fresh x (omega arith, h) (f n (omega arith))))
  where
    fresh_abs : {a b u : Lp} → IsFresh x (Lp.prod a b) → IsFresh x u → IsFresh x (Lp.abs a u)
    fresh_abs (lp.IsFresh.prod c d) e = lp.IsFresh.abs c e
typed_fresh x h (ty.Has.application p q) = lp.IsFresh.app (typed_fresh x h p) (typed_fresh x h q)
typed_fresh x h (ty.Has.conversion p e q i) = typed_fresh x h p

-- a variable put for another
pub only_closed : (x n m : ℕ) (b : Bool) → IsClosed (cond b (Lp.free n) (Lp.free m))
only_closed x n m true = lp.IsClosedAt.free
only_closed x n m false = lp.IsClosedAt.free

unfoldable pub renaming : ℕ → ℕ → Substitution
renaming x n = record {
  by = only x (Lp.free n);
  bound = suc x;
  closed = λ m. only_closed x n m (m == x);
  leaves = λ m h. at_other m x (Lp.free n) (Lp.free m) (omega arith);
}

rename_fits : {sigma : List Entry} (x n : ℕ) (a : Lp) (g : Context) → IsNew x g → IsFresh x a →
    Fits sigma (only x (Lp.free n)) (Context.bind x a g) (Context.bind n a g)
rename_fits {sigma} x n a g h e k type ty.Binds.here =
    subst₂ (λ v w. Has sigma (Context.bind n a g) v (Class.of w)) (sym (at_same x (Lp.free n) (Lp.free x))) (sym (substitute_fresh (Lp.free n) e)) (ty.Has.variable ty.Binds.here)
rename_fits {sigma} x n a g h e k type (ty.Binds.outside b) =
    subst₂ (λ v w. Has sigma (Context.bind n a g) v (Class.of w)) (sym (at_other k x (Lp.free n) (Lp.free k) (bound_other x (new_not_bound x g h) b)))
    (sym (substitute_fresh (Lp.free n) (bound_fresh x h b))) (ty.Has.variable (ty.Binds.outside b))

pub rename : {sigma : List Entry} {t : Lp} {c : Class} {a : Lp} {g : Context} (x n : ℕ) → SignatureHasNoFree sigma → IsNew x g → IsFresh x a →
    Has sigma (Context.bind x a g) t c → Has sigma (Context.bind n a g) (substitute (only x (Lp.free n)) t) (substitute_class (only x (Lp.free n)) c)
unfolding renaming
rename {a = a} {g = g} x n z h e p = has_substitute z (renaming x n) (Context.bind n a g) (rename_fits x n a g h e) p

pub sort_same : {c : Class} (s : ℕ → Lp) → IsSort c → substitute_class s c ≡ c
sort_same s ty.IsSort.is_type = refl
sort_same s ty.IsSort.is_kind = refl

-- a product and an abstraction by one fresh variable
pub product_by : {sigma : List Entry} {g : Context} {a b : Lp} {s : Class} (x : ℕ) → SignatureHasNoFree sigma → IsNew x g → Has sigma g a (Class.of Lp.sort) →
    Has sigma (Context.bind x a g) b s → IsSort s → Has sigma g (Lp.prod a (closed x b)) s
product_by {sigma} {g} {a} {b} {s} x z h p q i =
    ty.Has.product 0 p (λ n le. subst₂ (λ v w. Has sigma (Context.bind n a g) v w) (sym (open_close x (Lp.free n) (typed_closed q))) (sort_same (only x (Lp.free n)) i)
    (rename x n z h (typed_fresh x (new_not_bound x g h) p) q)) i

pub abstraction_by : {sigma : List Entry} {g : Context} {a b t : Lp} {s : Class} (x : ℕ) → SignatureHasNoFree sigma → IsNew x g → Has sigma g a (Class.of Lp.sort) →
    Has sigma (Context.bind x a g) b s → IsSort s → Has sigma (Context.bind x a g) t (Class.of b) →
    Has sigma g (Lp.abs a (closed x t)) (Class.of (Lp.prod a (closed x b)))
abstraction_by {sigma} {g} {a} x z h p q i r =
    ty.Has.abstraction 0 (λ n le. subst₂ (λ v w. Has sigma (Context.bind n a g) v (Class.of w))
    (sym (open_close x (Lp.free n) (typed_closed r))) (sym (open_close x (Lp.free n) (typed_closed q)))
    (rename x n z h (typed_fresh x (new_not_bound x g h) p) r))
    (product_by x z h p q i) i

-- where the variable doesn't occur in the codomain
pub arrow_type : {sigma : List Entry} {g : Context} {a b : Lp} {s : Class} → Has sigma g a (Class.of Lp.sort) → Has sigma g b s → IsSort s → Has sigma g (Lp.prod a b) s
arrow_type {sigma} {g} {a} {b} {s} p q i =
    ty.Has.product 0 p (λ n le. subst (λ v. Has sigma (Context.bind n a g) v s) (sym (open_closed 0 (Lp.free n) (typed_closed q) (omega arith))) (weaken_bind n a q)) i

pub arrow_apply : {sigma : List Entry} {g : Context} {a b f u : Lp} → Has sigma g f (Class.of (Lp.prod a b)) → IsClosed b → Has sigma g u (Class.of a) → Has sigma g (Lp.app f u) (Class.of b)
arrow_apply {sigma} {g} {f = f} {u = u} p c q = subst (λ v. Has sigma g (Lp.app f u) (Class.of v)) (open_closed 0 u c (omega arith)) (ty.Has.application p q)

pub lambda : {sigma : List Entry} {g : Context} {a b t : Lp} {s : Class} (x : ℕ) → SignatureHasNoFree sigma → IsNew x g → Has sigma g a (Class.of Lp.sort) → Has sigma g b s → IsSort s →
    Has sigma (Context.bind x a g) t (Class.of b) → Has sigma g (Lp.abs a (closed x t)) (Class.of (Lp.prod a b))
lambda {sigma} {g} {a} {b} {t} x z h p q i r =
    subst (λ v. Has sigma g (Lp.abs a (closed x t)) (Class.of (Lp.prod a v))) (close_fresh 0 (typed_fresh x (new_not_bound x g h) q))
    (abstraction_by x z h p (weaken_bind x a q) i r)

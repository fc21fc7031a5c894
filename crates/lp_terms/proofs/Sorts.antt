-- Substitution of a term for the last variable, and: a type that a term has, has a sort.
use Rattle.std.proofs.Common.{ℕ, suc, ◌≤◌, max, List, Bool, true, false, cond, ◌==◌, sym, ap₂, ◌∙◌, subst₂, arith, subst}
use Rattle.lp_terms.specs.Term.{Lp, opened, open_at, substitute, only, IsClosed, IsClosedAt, IsFresh}
use Rattle.lp_terms.specs.Term as lp
use Rattle.lp_terms.specs.Signature.{Entry, Declares, SignatureHasNoFree}
use Rattle.lp_terms.specs.Typing.{Context, Binds, IsNew, Class, IsSort, Has, IsContext, IsSorted, substitute_class}
use Rattle.lp_terms.specs.Typing as ty
use Rattle.lp_terms.proofs.Terms.{substitute_open, substitute_fresh, at_same, at_other}
use Rattle.lp_terms.proofs.Substitution.{Substitution, has_substitute, Fits, weaken_empty, weaken_bind}
use Rattle.lp_terms.proofs.Binders.{new_not_bound, typed_closed, typed_fresh, bound_fresh, bound_other, sort_same}
use Rattle.lp_terms.proofs.PlainReadings.{above, above_context}

closed_choice : (u : Lp) (m : ℕ) (b : Bool) → IsClosed u → IsClosed (cond b u (Lp.free m))
closed_choice u m true c = c
closed_choice u m false c = lp.IsClosedAt.free

-- u for x
putting : (x : ℕ) (u : Lp) → IsClosed u → Substitution
putting x u c = record {
  by = only x u;
  bound = suc x;
  closed = λ m. closed_choice u m (m == x) c;
  leaves = λ m h. at_other m x u (Lp.free m) (omega arith);
}

put_fits : {sigma : List Entry} (x : ℕ) (u a : Lp) (g : Context) → IsNew x g → IsFresh x a → Has sigma g u (Class.of a) → Fits sigma (only x u) (Context.bind x a g) g
put_fits {sigma} x u a g h e p k type ty.Binds.here =
    subst₂ (λ v w. Has sigma g v (Class.of w)) (sym (at_same x u (Lp.free x))) (sym (substitute_fresh u e)) p
put_fits {sigma} x u a g h e p k type (ty.Binds.outside b) =
    subst₂ (λ v w. Has sigma g v (Class.of w)) (sym (at_other k x u (Lp.free k) (bound_other x (new_not_bound x g h) b))) (sym (substitute_fresh u (bound_fresh x h b))) (ty.Has.variable b)

-- the rule of substitution
pub put : {sigma : List Entry} {t : Lp} {c : Class} {a : Lp} {g : Context} (x : ℕ) (u : Lp) → SignatureHasNoFree sigma → IsNew x g → Has sigma g a (Class.of Lp.sort) → Has sigma g u (Class.of a) →
    Has sigma (Context.bind x a g) t c → Has sigma g (substitute (only x u) t) (substitute_class (only x u) c)
unfolding putting
put {a = a} {g = g} x u z h p q r = has_substitute z (putting x u (typed_closed q)) g (put_fits x u a g h (typed_fresh x (new_not_bound x g h) p) q) r

-- what the typing of a product says
pub product_parts : {sigma : List Entry} {g : Context} {a b : Lp} {c : Class} → Has sigma g (Lp.prod a b) c →
    Has sigma g a (Class.of Lp.sort) × ((s : Class) × IsSort s × ((bound : ℕ) × ((n : ℕ) → bound ≤ n → Has sigma (Context.bind n a g) (opened b (Lp.free n)) s)))
product_parts (ty.Has.product {s = s} bound p f i) = (p, (s, i, (bound, f)))
product_parts (ty.Has.conversion p e q i) = product_parts p

-- the codomain at an argument
pub codomain_at : {sigma : List Entry} {g : Context} {a b : Lp} {c : Class} (u : Lp) → SignatureHasNoFree sigma → Has sigma g (Lp.prod a b) c → Has sigma g u (Class.of a) → (s : Class) × IsSort s × Has sigma g (opened b u) s
unfolding putting
codomain_at {sigma} {g} {a} {b} u z p q =
    let parts : Has sigma g a (Class.of Lp.sort) × ((s : Class) × IsSort s × ((bound : ℕ) × ((n : ℕ) → bound ≤ n → Has sigma (Context.bind n a g) (opened b (Lp.free n)) s))) = product_parts p in
    let n : ℕ = max parts.1.2.0 (max (above_context g).0 (above b).0) in (
      parts.1.0,
      parts.1.1,
      subst₂ (λ v w. Has sigma g v w)
          (substitute_open (only n u) (λ m. closed_choice u m (m == n) (typed_closed q)) 0 (Lp.free n) b
          ∙ ap₂ (λ v w. open_at 0 v w) (at_same n u (Lp.free n)) (substitute_fresh u ((above b).1 n (omega arith))))
          (sort_same (only n u) parts.1.1)
          (put n u z ((above_context g).1 n (omega arith)) parts.0 q (parts.1.2.1 n (omega arith))),
    )

-- a body at an argument
pub body_at : {sigma : List Entry} {g : Context} {a : Lp} {t : List ℕ} (b u : Lp) (bound : ℕ) → SignatureHasNoFree sigma → Has sigma g a (Class.of Lp.sort) → Has sigma g u (Class.of a) →
    ((n : ℕ) → bound ≤ n → Has sigma (Context.bind n a g) (opened b (Lp.free n)) (Class.of (Lp.const t))) → Has sigma g (opened b u) (Class.of (Lp.const t))
unfolding putting
body_at {sigma} {g} {a} {t} b u bound z p q f =
    let n : ℕ = max bound (max (above_context g).0 (above b).0) in
    subst (λ v. Has sigma g v (Class.of (Lp.const t)))
    (substitute_open (only n u) (λ m. closed_choice u m (m == n) (typed_closed q)) 0 (Lp.free n) b
    ∙ ap₂ (λ v w. open_at 0 v w) (at_same n u (Lp.free n)) (substitute_fresh u ((above b).1 n (omega arith))))
    (put n u z ((above_context g).1 n (omega arith)) p q (f n (omega arith)))

variable_sort : {sigma : List Entry} {g : Context} {n : ℕ} {a : Lp} → IsContext sigma g → Binds g n a → Has sigma g a (Class.of Lp.sort)
variable_sort c ty.Binds.here = weaken_bind _ _ c.0
variable_sort c (ty.Binds.outside b) = weaken_bind _ _ (variable_sort c.1 b)

module _ (sigma : List Entry) (z : SignatureHasNoFree sigma) (sorted : (c : List ℕ) (type : Lp) → Declares sigma c type → (s : Class) × IsSort s × Has sigma Context.empty type s) where
  sort_sorted : {s : Class} (g : Context) → IsSort s → IsSorted sigma g s
  sort_sorted g ty.IsSort.is_type = (Class.kind, ty.IsSort.is_kind, ty.Has.sort)
  sort_sorted g ty.IsSort.is_kind = tt

  pub class_sorted : {g : Context} {u : Lp} {c : Class} → IsContext sigma g → Has sigma g u c → IsSorted sigma g c
  class_sorted ok ty.Has.sort = tt
  class_sorted {g} ok (ty.Has.constant d) = ((sorted _ _ d).0, (sorted _ _ d).1, weaken_empty g (sorted _ _ d).2)
  class_sorted ok (ty.Has.variable b) = (Class.of Lp.sort, ty.IsSort.is_type, variable_sort ok b)
  class_sorted {g} ok (ty.Has.product bound p f i) = sort_sorted g i
  class_sorted ok (ty.Has.abstraction bound f p i) = (_, i, p)
  class_sorted ok (ty.Has.application {a = a} p q) = codomain_at a z (class_sorted ok p).2 q
  class_sorted ok (ty.Has.conversion p e q i) = (_, i, q)

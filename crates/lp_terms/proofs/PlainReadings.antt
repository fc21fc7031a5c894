-- One variable that occurs nowhere else, or every variable from some number on: the same reductions, conversions and typings.
use Rattle.std.proofs.Common.{ℕ, suc, ◌≡◌, ◌≤◌, max, List, ◌==◌, ap, ap₂, ◌∙◌, subst₂, arith}
use Rattle.lp_terms.specs.Term.{Lp, opened, open_at, closed, substitute, only, IsClosed, IsClosedAt, IsFresh}
use Rattle.lp_terms.specs.Term as lp
use Rattle.lp_terms.specs.Signature.{Entry, SignatureHasNoFree}
use Rattle.lp_terms.specs.Reduction.{Reduces, Converts}
use Rattle.lp_terms.specs.Reduction as red
use Rattle.lp_terms.specs.Typing.{Context, IsNew, Class, Has, substitute_class}
use Rattle.lp_terms.specs.Typing as ty
use Rattle.lp_terms.specs.PlainTyping.{PlainReduces, PlainConverts, PlainHas}
use Rattle.lp_terms.specs.PlainTyping as plain
use Rattle.lp_terms.proofs.Terms.{substitute_open, substitute_fresh, at_same}
use Rattle.lp_terms.proofs.Substitution.{reduces_substitute}
use Rattle.lp_terms.proofs.Binders.{new_not_bound, typed_fresh, rename, renaming, only_closed, sort_same}

-- a number above all that occur
pub above : (t : Lp) → (b : ℕ) × ((n : ℕ) → b ≤ n → IsFresh n t)
above Lp.sort = (0, λ n h. lp.IsFresh.sort)
above (Lp.const c) = (0, λ n h. lp.IsFresh.const)
above (Lp.free m) = (suc m, λ n h. lp.IsFresh.free (omega arith))
above (Lp.index i) = (0, λ n h. lp.IsFresh.index)
above (Lp.app f a) =
    let p : (b : ℕ) × ((n : ℕ) → b ≤ n → IsFresh n f) = above f in
    let q : (b : ℕ) × ((n : ℕ) → b ≤ n → IsFresh n a) = above a in
    (max p.0 q.0, λ n h. lp.IsFresh.app (p.1 n (omega arith)) (q.1 n (omega arith)))
above (Lp.abs f a) =
    let p : (b : ℕ) × ((n : ℕ) → b ≤ n → IsFresh n f) = above f in
    let q : (b : ℕ) × ((n : ℕ) → b ≤ n → IsFresh n a) = above a in
    (max p.0 q.0, λ n h. lp.IsFresh.abs (p.1 n (omega arith)) (q.1 n (omega arith)))
above (Lp.prod f a) =
    let p : (b : ℕ) × ((n : ℕ) → b ≤ n → IsFresh n f) = above f in
    let q : (b : ℕ) × ((n : ℕ) → b ≤ n → IsFresh n a) = above a in
    (max p.0 q.0, λ n h. lp.IsFresh.prod (p.1 n (omega arith)) (q.1 n (omega arith)))

pub above_context : (g : Context) → (b : ℕ) × ((n : ℕ) → b ≤ n → IsNew n g)
above_context Context.empty = (0, λ n h. tt)
above_context (Context.bind m a g) =
    let p : (b : ℕ) × ((n : ℕ) → b ≤ n → IsFresh n a) = above a in
    let q : (b : ℕ) × ((n : ℕ) → b ≤ n → IsNew n g) = above_context g in
    (max (suc m) (max p.0 q.0), λ n h. (omega arith, p.1 n (omega arith), q.1 n (omega arith)))

-- a body opened with one variable, and that put for another
pub move : (n m : ℕ) (t : Lp) → IsFresh n t → substitute (only n (Lp.free m)) (opened t (Lp.free n)) ≡ opened t (Lp.free m)
move n m t f = substitute_open (only n (Lp.free m)) (λ k. only_closed n m k (k == n)) 0 (Lp.free n) t
    ∙ ap₂ (λ u b. open_at 0 u b) (at_same n (Lp.free m) (Lp.free n)) (substitute_fresh (Lp.free m) f)

module _ (sigma : List Entry) (z : SignatureHasNoFree sigma) where
  pub move_reduces : (n m : ℕ) (t u : Lp) → IsFresh n t → IsFresh n u → Reduces sigma (opened t (Lp.free n)) (opened u (Lp.free n)) → Reduces sigma (opened t (Lp.free m)) (opened u (Lp.free m))
  unfolding renaming
  move_reduces n m t u ft fu q = subst₂ (Reduces sigma) (move n m t ft) (move n m u fu) (reduces_substitute z (renaming n m) q)

  pub reduces_all : {t u : Lp} → PlainReduces sigma t u → Reduces sigma t u
  reduces_all (plain.PlainReduces.beta c) = red.Reduces.beta c
  reduces_all (plain.PlainReduces.by_rule us h e c) = red.Reduces.by_rule us h e c
  reduces_all (plain.PlainReduces.by_definition h) = red.Reduces.by_definition h
  reduces_all (plain.PlainReduces.in_function q) = red.Reduces.in_function (reduces_all q)
  reduces_all (plain.PlainReduces.in_argument q) = red.Reduces.in_argument (reduces_all q)
  reduces_all (plain.PlainReduces.in_abs_domain q) = red.Reduces.in_abs_domain (reduces_all q)
  reduces_all (plain.PlainReduces.in_abs_body {t = t} {u = u} n ft fu q) = red.Reduces.in_abs_body 0 (λ m le. move_reduces n m t u ft fu (reduces_all q))
  reduces_all (plain.PlainReduces.in_prod_domain q) = red.Reduces.in_prod_domain (reduces_all q)
  reduces_all (plain.PlainReduces.in_prod_codomain {t = t} {u = u} n ft fu q) = red.Reduces.in_prod_codomain 0 (λ m le. move_reduces n m t u ft fu (reduces_all q))

  pub converts_all : {t u : Lp} → PlainConverts sigma t u → Converts sigma t u
  converts_all plain.PlainConverts.same = red.Converts.same
  converts_all (plain.PlainConverts.forth q c) = red.Converts.forth (reduces_all q) (converts_all c)
  converts_all (plain.PlainConverts.back q c) = red.Converts.back (reduces_all q) (converts_all c)

  move_class : (n m : ℕ) (b : Lp) → IsFresh n b → substitute_class (only n (Lp.free m)) (Class.of (opened b (Lp.free n))) ≡ Class.of (opened b (Lp.free m))
  move_class n m b f = ap Class.of (move n m b f)

  pub has_all : {g : Context} {t : Lp} {c : Class} → PlainHas sigma g t c → Has sigma g t c
  has_all plain.PlainHas.sort = ty.Has.sort
  has_all (plain.PlainHas.constant d) = ty.Has.constant d
  has_all (plain.PlainHas.variable b) = ty.Has.variable b
  has_all (plain.PlainHas.product {g = g} {domain = a} {codomain = b} {s = s} n new fb p q i) =
      ty.Has.product 0 (has_all p) (λ m le. subst₂ (λ v w. Has sigma (Context.bind m a g) v w) (move n m b fb) (sort_same (only n (Lp.free m)) i)
      (rename n m z new (typed_fresh n (new_not_bound n g new) (has_all p)) (has_all q))) i
  has_all (plain.PlainHas.abstraction {g = g} {domain = a} {body = t} {codomain = b} n new ft fb q p i) =
      ty.Has.abstraction 0 (λ m le. subst₂ (λ v w. Has sigma (Context.bind m a g) v w) (move n m t ft) (move_class n m b fb)
      (rename n m z new (fresh_domain n (typed_fresh n (new_not_bound n g new) (has_all p))) (has_all q))) (has_all p) i
    where
      fresh_domain : (n : ℕ) {a b : Lp} → IsFresh n (Lp.prod a b) → IsFresh n a
      fresh_domain n (lp.IsFresh.prod c d) = c
  has_all (plain.PlainHas.application p q) = ty.Has.application (has_all p) (has_all q)
  has_all (plain.PlainHas.conversion p e q i) = ty.Has.conversion (has_all p) (converts_all e) (has_all q) i

pub reduces_one : {sigma : List Entry} {t u : Lp} → Reduces sigma t u → PlainReduces sigma t u
reduces_one (red.Reduces.beta c) = plain.PlainReduces.beta c
reduces_one (red.Reduces.by_rule us h e c) = plain.PlainReduces.by_rule us h e c
reduces_one (red.Reduces.by_definition h) = plain.PlainReduces.by_definition h
reduces_one (red.Reduces.in_function q) = plain.PlainReduces.in_function (reduces_one q)
reduces_one (red.Reduces.in_argument q) = plain.PlainReduces.in_argument (reduces_one q)
reduces_one (red.Reduces.in_abs_domain q) = plain.PlainReduces.in_abs_domain (reduces_one q)
reduces_one (red.Reduces.in_abs_body {t = t} {u = u} bound f) =
    let n : ℕ = max bound (max (above t).0 (above u).0) in
    plain.PlainReduces.in_abs_body n ((above t).1 n (omega arith)) ((above u).1 n (omega arith)) (reduces_one (f n (omega arith)))
reduces_one (red.Reduces.in_prod_domain q) = plain.PlainReduces.in_prod_domain (reduces_one q)
reduces_one (red.Reduces.in_prod_codomain {t = t} {u = u} bound f) =
    let n : ℕ = max bound (max (above t).0 (above u).0) in
    plain.PlainReduces.in_prod_codomain n ((above t).1 n (omega arith)) ((above u).1 n (omega arith)) (reduces_one (f n (omega arith)))

pub converts_one : {sigma : List Entry} {t u : Lp} → Converts sigma t u → PlainConverts sigma t u
converts_one red.Converts.same = plain.PlainConverts.same
converts_one (red.Converts.forth q c) = plain.PlainConverts.forth (reduces_one q) (converts_one c)
converts_one (red.Converts.back q c) = plain.PlainConverts.back (reduces_one q) (converts_one c)

pub has_one : {sigma : List Entry} {g : Context} {t : Lp} {c : Class} → Has sigma g t c → PlainHas sigma g t c
has_one ty.Has.sort = plain.PlainHas.sort
has_one (ty.Has.constant d) = plain.PlainHas.constant d
has_one (ty.Has.variable b) = plain.PlainHas.variable b
has_one (ty.Has.product {g = g} {codomain = b} bound p f i) =
    let n : ℕ = max bound (max (above_context g).0 (above b).0) in
    plain.PlainHas.product n ((above_context g).1 n (omega arith)) ((above b).1 n (omega arith)) (has_one p) (has_one (f n (omega arith))) i
has_one (ty.Has.abstraction {g = g} {body = t} {codomain = b} bound f p i) =
    let n : ℕ = max bound (max (above_context g).0 (max (above t).0 (above b).0)) in
    plain.PlainHas.abstraction n ((above_context g).1 n (omega arith)) ((above t).1 n (omega arith)) ((above b).1 n (omega arith)) (has_one (f n (omega arith))) (has_one p) i
has_one (ty.Has.application p q) = plain.PlainHas.application (has_one p) (has_one q)
has_one (ty.Has.conversion p e q i) = plain.PlainHas.conversion (has_one p) (converts_one e) (has_one q) i

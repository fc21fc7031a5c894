-- Weakening, substitution, and binders opened with one variable.
use Rattle.std.proofs.Common.{ℕ, suc, ◌≡◌, ◌≤◌, max, List, [], ◌∷◌, length, refl, sym, ap, ◌∙◌, subst, subst₂, arith}
use Rattle.lp_terms.specs.Term.{Lp, opened, open_at, substitute, IsClosed, IsFresh}
use Rattle.lp_terms.specs.Signature.{Entry, Holds, Extends, Declares, SignatureHasNoFree}
use Rattle.lp_terms.specs.Signature as sig
use Rattle.lp_terms.specs.Reduction.{instance_at, AreClosed, Reduces, Converts}
use Rattle.lp_terms.specs.Reduction as red
use Rattle.lp_terms.specs.Typing.{Context, Binds, IsWithin, Class, IsSort, Has, substitute_class}
use Rattle.lp_terms.specs.Typing as ty
use Rattle.lp_terms.proofs.Terms.{substitute_open, substitute_none, substitute_closed}

within_bind : (n : ℕ) (a : Lp) (g h : Context) → IsWithin g h → IsWithin (Context.bind n a g) (Context.bind n a h)
within_bind n a g h w k type ty.Binds.here = ty.Binds.here
within_bind n a g h w k type (ty.Binds.outside b) = ty.Binds.outside (w k type b)

pub weaken : {sigma : List Entry} {g : Context} {t : Lp} {c : Class} (h : Context) → IsWithin g h → Has sigma g t c → Has sigma h t c
weaken h w ty.Has.sort = ty.Has.sort
weaken h w (ty.Has.constant d) = ty.Has.constant d
weaken h w (ty.Has.variable b) = ty.Has.variable (w _ _ b)
weaken h w (ty.Has.product {g = g} {domain = a} bound p f s) =
    ty.Has.product bound (weaken h w p) (λ n le. weaken (Context.bind n a h) (within_bind n a g h w) (f n le)) s
weaken h w (ty.Has.abstraction {g = g} {domain = a} bound f p s) =
    ty.Has.abstraction bound (λ n le. weaken (Context.bind n a h) (within_bind n a g h w) (f n le)) (weaken h w p) s
weaken h w (ty.Has.application p q) = ty.Has.application (weaken h w p) (weaken h w q)
weaken h w (ty.Has.conversion p e q s) = ty.Has.conversion (weaken h w p) e (weaken h w q) s

pub weaken_bind : {sigma : List Entry} {g : Context} {t : Lp} {c : Class} (n : ℕ) (a : Lp) → Has sigma g t c → Has sigma (Context.bind n a g) t c
weaken_bind n a p = weaken _ (λ k type b. ty.Binds.outside b) p

pub weaken_empty : {sigma : List Entry} {t : Lp} {c : Class} (g : Context) → Has sigma Context.empty t c → Has sigma g t c
weaken_empty g p = weaken g (λ k type b. elim b [ ]) p

-- one variable more below the last
under_two : (m n : ℕ) (b a : Lp) (g : Context) → IsWithin (Context.bind m b g) (Context.bind m b (Context.bind n a g))
under_two m n b a g k type ty.Binds.here = ty.Binds.here
under_two m n b a g k type (ty.Binds.outside i) = ty.Binds.outside (ty.Binds.outside i)

pub weaken_under : {sigma : List Entry} {g : Context} {m : ℕ} {b t : Lp} {c : Class} (n : ℕ) (a : Lp) → Has sigma (Context.bind m b g) t c → Has sigma (Context.bind m b (Context.bind n a g)) t c
weaken_under {g = g} {m = m} {b = b} n a p = weaken _ (under_two m n b a g) p

declares_more : {sigma : List Entry} {name : List ℕ} {type : Lp} (tau : List Entry) → Extends sigma tau → Declares sigma name type → Declares tau name type
declares_more tau w (sig.Declares.declared h) = sig.Declares.declared (w _ h)
declares_more tau w (sig.Declares.defined h) = sig.Declares.defined (w _ h)

reduces_more : {sigma : List Entry} {t u : Lp} (tau : List Entry) → Extends sigma tau → Reduces sigma t u → Reduces tau t u
reduces_more tau w (red.Reduces.beta c) = red.Reduces.beta c
reduces_more tau w (red.Reduces.by_rule us h e c) = red.Reduces.by_rule us (w _ h) e c
reduces_more tau w (red.Reduces.by_definition h) = red.Reduces.by_definition (w _ h)
reduces_more tau w (red.Reduces.in_function r) = red.Reduces.in_function (reduces_more tau w r)
reduces_more tau w (red.Reduces.in_argument r) = red.Reduces.in_argument (reduces_more tau w r)
reduces_more tau w (red.Reduces.in_abs_domain r) = red.Reduces.in_abs_domain (reduces_more tau w r)
reduces_more tau w (red.Reduces.in_abs_body bound f) = red.Reduces.in_abs_body bound (λ n le. reduces_more tau w (f n le))
reduces_more tau w (red.Reduces.in_prod_domain r) = red.Reduces.in_prod_domain (reduces_more tau w r)
reduces_more tau w (red.Reduces.in_prod_codomain bound f) = red.Reduces.in_prod_codomain bound (λ n le. reduces_more tau w (f n le))

converts_more : {sigma : List Entry} {t u : Lp} (tau : List Entry) → Extends sigma tau → Converts sigma t u → Converts tau t u
converts_more tau w red.Converts.same = red.Converts.same
converts_more tau w (red.Converts.forth r c) = red.Converts.forth (reduces_more tau w r) (converts_more tau w c)
converts_more tau w (red.Converts.back r c) = red.Converts.back (reduces_more tau w r) (converts_more tau w c)

pub weaken_signature : {sigma : List Entry} {g : Context} {t : Lp} {c : Class} (tau : List Entry) → Extends sigma tau → Has sigma g t c → Has tau g t c
weaken_signature tau w ty.Has.sort = ty.Has.sort
weaken_signature tau w (ty.Has.constant d) = ty.Has.constant (declares_more tau w d)
weaken_signature tau w (ty.Has.variable b) = ty.Has.variable b
weaken_signature tau w (ty.Has.product bound p f s) = ty.Has.product bound (weaken_signature tau w p) (λ n le. weaken_signature tau w (f n le)) s
weaken_signature tau w (ty.Has.abstraction bound f p s) = ty.Has.abstraction bound (λ n le. weaken_signature tau w (f n le)) (weaken_signature tau w p) s
weaken_signature tau w (ty.Has.application p q) = ty.Has.application (weaken_signature tau w p) (weaken_signature tau w q)
weaken_signature tau w (ty.Has.conversion p e q s) = ty.Has.conversion (weaken_signature tau w p) (converts_more tau w e) (weaken_signature tau w q) s

-- conversion is an equivalence and goes into each place
pub converts_trans : {sigma : List Entry} {t u v : Lp} → Converts sigma t u → Converts sigma u v → Converts sigma t v
converts_trans red.Converts.same d = d
converts_trans (red.Converts.forth r c) d = red.Converts.forth r (converts_trans c d)
converts_trans (red.Converts.back r c) d = red.Converts.back r (converts_trans c d)

pub one : {sigma : List Entry} {t u : Lp} → Reduces sigma t u → Converts sigma t u
one r = red.Converts.forth r red.Converts.same

pub one_back : {sigma : List Entry} {t u : Lp} → Reduces sigma t u → Converts sigma u t
one_back r = red.Converts.back r red.Converts.same

pub converts_sym : {sigma : List Entry} {t u : Lp} → Converts sigma t u → Converts sigma u t
converts_sym red.Converts.same = red.Converts.same
converts_sym (red.Converts.forth r c) = converts_trans (converts_sym c) (one_back r)
converts_sym (red.Converts.back r c) = converts_trans (converts_sym c) (one r)

pub convert_function : {sigma : List Entry} {f g : Lp} (a : Lp) → Converts sigma f g → Converts sigma (Lp.app f a) (Lp.app g a)
convert_function a red.Converts.same = red.Converts.same
convert_function a (red.Converts.forth r c) = red.Converts.forth (red.Reduces.in_function r) (convert_function a c)
convert_function a (red.Converts.back r c) = red.Converts.back (red.Reduces.in_function r) (convert_function a c)

pub convert_argument : {sigma : List Entry} {a b : Lp} (f : Lp) → Converts sigma a b → Converts sigma (Lp.app f a) (Lp.app f b)
convert_argument f red.Converts.same = red.Converts.same
convert_argument f (red.Converts.forth r c) = red.Converts.forth (red.Reduces.in_argument r) (convert_argument f c)
convert_argument f (red.Converts.back r c) = red.Converts.back (red.Reduces.in_argument r) (convert_argument f c)

pub convert_domain : {sigma : List Entry} {a b : Lp} (t : Lp) → Converts sigma a b → Converts sigma (Lp.prod a t) (Lp.prod b t)
convert_domain t red.Converts.same = red.Converts.same
convert_domain t (red.Converts.forth r c) = red.Converts.forth (red.Reduces.in_prod_domain r) (convert_domain t c)
convert_domain t (red.Converts.back r c) = red.Converts.back (red.Reduces.in_prod_domain r) (convert_domain t c)

-- a substitution by closed terms that leaves each variable from some number on
pub record Substitution : Type 0 where
  pub by : ℕ → Lp
  pub bound : ℕ
  pub closed : (n : ℕ) → IsClosed (by n)
  pub leaves : (n : ℕ) → bound ≤ n → by n ≡ Lp.free n

substitute_body : (s : Substitution) (t : Lp) (n : ℕ) → s.bound ≤ n →
    substitute s.by (opened t (Lp.free n)) ≡ opened (substitute s.by t) (Lp.free n)
substitute_body s t n h = substitute_open s.by s.closed 0 (Lp.free n) t ∙ ap (λ u. opened (substitute s.by t) u) (s.leaves n h)

abbrev pub substitute_each : (ℕ → Lp) → List Lp → List Lp
substitute_each s [] = []
substitute_each s (u ∷ us) = substitute s u ∷ substitute_each s us

substitute_each_length : (s : ℕ → Lp) (us : List Lp) → length (substitute_each s us) ≡ length us
substitute_each_length s [] = refl
substitute_each_length s (u ∷ us) = ap suc (substitute_each_length s us)

substitute_each_closed : (s : ℕ → Lp) → ((n : ℕ) → IsClosed (s n)) → (us : List Lp) → AreClosed us → AreClosed (substitute_each s us)
substitute_each_closed s c [] h = tt
substitute_each_closed s c (u ∷ us) h = (substitute_closed s c h.0, substitute_each_closed s c us h.1)

pub substitute_instance : (s : ℕ → Lp) → ((n : ℕ) → IsClosed (s n)) → (k : ℕ) (us : List Lp) (t : Lp) →
    substitute s (instance_at k us t) ≡ instance_at k (substitute_each s us) (substitute s t)
substitute_instance s c k [] t = refl
substitute_instance s c k (u ∷ us) t =
    substitute_open s c k u (instance_at (suc k) us t) ∙ ap (λ v. open_at k (substitute s u) v) (substitute_instance s c (suc k) us t)

pub reduces_substitute : {sigma : List Entry} {t u : Lp} → SignatureHasNoFree sigma → (s : Substitution) → Reduces sigma t u →
    Reduces sigma (substitute s.by t) (substitute s.by u)
reduces_substitute {sigma} g s (red.Reduces.beta {domain = d} {body = b} {argument = a} c) =
    subst (λ v. Reduces sigma (substitute s.by (Lp.app (Lp.abs d b) a)) v) (sym (substitute_open s.by s.closed 0 a b)) (red.Reduces.beta (substitute_closed s.by s.closed c))
reduces_substitute {sigma} g s (red.Reduces.by_rule {left = l} {right = r} us h e c) =
    subst₂ (λ v w. Reduces sigma v w)
    (sym (substitute_instance s.by s.closed 0 us l ∙ ap (λ v. instance_at 0 (substitute_each s.by us) v) (substitute_none s.by l (g _ h).1)))
    (sym (substitute_instance s.by s.closed 0 us r ∙ ap (λ v. instance_at 0 (substitute_each s.by us) v) (substitute_none s.by r (g _ h).2)))
    (red.Reduces.by_rule (substitute_each s.by us) h (substitute_each_length s.by us ∙ e) (substitute_each_closed s.by s.closed us c))
reduces_substitute {sigma} g s (red.Reduces.by_definition {name = n} {body = b} h) =
    subst (λ v. Reduces sigma (Lp.const n) v) (sym (substitute_none s.by b (g _ h).1)) (red.Reduces.by_definition h)
reduces_substitute g s (red.Reduces.in_function r) = red.Reduces.in_function (reduces_substitute g s r)
reduces_substitute g s (red.Reduces.in_argument r) = red.Reduces.in_argument (reduces_substitute g s r)
reduces_substitute g s (red.Reduces.in_abs_domain r) = red.Reduces.in_abs_domain (reduces_substitute g s r)
reduces_substitute {sigma} g s (red.Reduces.in_abs_body {t = t} {u = u} bound f) =
    red.Reduces.in_abs_body (max bound s.bound) (λ n le. subst₂ (λ v w. Reduces sigma v w)
    (substitute_body s t n (omega arith)) (substitute_body s u n (omega arith)) (reduces_substitute g s (f n (omega arith))))
reduces_substitute g s (red.Reduces.in_prod_domain r) = red.Reduces.in_prod_domain (reduces_substitute g s r)
reduces_substitute {sigma} g s (red.Reduces.in_prod_codomain {t = t} {u = u} bound f) =
    red.Reduces.in_prod_codomain (max bound s.bound) (λ n le. subst₂ (λ v w. Reduces sigma v w)
    (substitute_body s t n (omega arith)) (substitute_body s u n (omega arith)) (reduces_substitute g s (f n (omega arith))))

pub converts_substitute : {sigma : List Entry} {t u : Lp} → SignatureHasNoFree sigma → (s : Substitution) → Converts sigma t u →
    Converts sigma (substitute s.by t) (substitute s.by u)
converts_substitute g s red.Converts.same = red.Converts.same
converts_substitute g s (red.Converts.forth r c) = red.Converts.forth (reduces_substitute g s r) (converts_substitute g s c)
converts_substitute g s (red.Converts.back r c) = red.Converts.back (reduces_substitute g s r) (converts_substitute g s c)

sort_substitute : {c : Class} (s : ℕ → Lp) → IsSort c → IsSort (substitute_class s c)
sort_substitute s ty.IsSort.is_type = ty.IsSort.is_type
sort_substitute s ty.IsSort.is_kind = ty.IsSort.is_kind

declared_closed : {sigma : List Entry} {name : List ℕ} {type : Lp} → SignatureHasNoFree sigma → Declares sigma name type → (x : ℕ) → IsFresh x type
declared_closed g (sig.Declares.declared h) x = g _ h x
declared_closed g (sig.Declares.defined h) x = (g _ h).0 x

-- each variable's term has the variable's type
abbrev pub Fits : List Entry → (ℕ → Lp) → Context → Context → Type 0
Fits sigma s g h = (n : ℕ) (type : Lp) → Binds g n type → Has sigma h (s n) (Class.of (substitute s type))

fits_bind : {sigma : List Entry} (s : Substitution) (n : ℕ) (a : Lp) (g h : Context) → s.bound ≤ n → Fits sigma s.by g h →
    Fits sigma s.by (Context.bind n a g) (Context.bind n (substitute s.by a) h)
fits_bind {sigma} s n a g h le f k type ty.Binds.here =
    subst (λ v. Has sigma (Context.bind n (substitute s.by a) h) v (Class.of (substitute s.by a))) (sym (s.leaves n le)) (ty.Has.variable ty.Binds.here)
fits_bind s n a g h le f k type (ty.Binds.outside b) = weaken_bind n (substitute s.by a) (f k type b)

body_class : (s : Substitution) (c : Class) → Class
body_class s c = substitute_class s.by c

pub has_substitute : {sigma : List Entry} {g : Context} {t : Lp} {c : Class} → SignatureHasNoFree sigma → (s : Substitution) (h : Context) → Fits sigma s.by g h →
    Has sigma g t c → Has sigma h (substitute s.by t) (substitute_class s.by c)
has_substitute z s h f ty.Has.sort = ty.Has.sort
has_substitute {sigma} z s h f (ty.Has.constant {name = name} {type = type} d) =
    subst (λ v. Has sigma h (Lp.const name) (Class.of v)) (sym (substitute_none s.by type (declared_closed z d))) (ty.Has.constant d)
has_substitute z s h f (ty.Has.variable b) = f _ _ b
has_substitute {sigma} z s h f (ty.Has.product {g = g} {domain = a} {codomain = b} {s = c} bound p q i) =
    ty.Has.product (max bound s.bound) (has_substitute z s h f p)
    (λ n le. subst (λ v. Has sigma (Context.bind n (substitute s.by a) h) v (substitute_class s.by c)) (substitute_body s b n (omega arith))
    (has_substitute z s (Context.bind n (substitute s.by a) h) (fits_bind s n a g h (omega arith) f) (q n (omega arith))))
    (sort_substitute s.by i)
has_substitute {sigma} z s h f (ty.Has.abstraction {g = g} {domain = a} {body = t} {codomain = b} bound q p i) =
    ty.Has.abstraction (max bound s.bound)
    (λ n le. subst₂ (λ v w. Has sigma (Context.bind n (substitute s.by a) h) v (Class.of w)) (substitute_body s t n (omega arith)) (substitute_body s b n (omega arith))
    (has_substitute z s (Context.bind n (substitute s.by a) h) (fits_bind s n a g h (omega arith) f) (q n (omega arith))))
    (has_substitute z s h f p) (sort_substitute s.by i)
has_substitute {sigma} z s h f (ty.Has.application {f = u} {a = a} {codomain = b} p q) =
    subst (λ v. Has sigma h (Lp.app (substitute s.by u) (substitute s.by a)) (Class.of v)) (sym (substitute_open s.by s.closed 0 a b))
    (ty.Has.application (has_substitute z s h f p) (has_substitute z s h f q))
has_substitute z s h f (ty.Has.conversion p e q i) =
    ty.Has.conversion (has_substitute z s h f p) (converts_substitute z s e) (has_substitute z s h f q) (sort_substitute s.by i)

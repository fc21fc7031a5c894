-- What the calls of an inference tell together, at each end of the functions that make it.
use Rattle.std.proofs.Common.{ℕ, suc, ◌≡◌, List, [], ◌∷◌, ◌++◌, false, sym, ap, ap₂, ◌∙◌, subst, arith}
use Rattle.std.specs.Prelude.{Result, Ok, Err, OnOk, Some, slice_get, remove, length}
use Rattle.lp_terms.specs.declared.term.Lp.{Lp}
use Rattle.lp_terms.specs.View.{term_of}
use Rattle.lp_terms.specs.Term as plain
use Rattle.lp_terms.specs.Term.{opened, closed}
use Rattle.lp_terms.specs.Signature.{Entry}
use Rattle.lp_terms.specs.Reduction.{instance_at}
use Rattle.lp_terms.specs.Typing.{Class}
use Rattle.dk_checker.specs.declared.stop.Stop.{Stop}
use Rattle.dk_checker.specs.declared.stop.Stop.TheVariants as stops
use Rattle.dk_checker.specs.declared.verdict.Class as code
use Rattle.dk_checker.specs.Found.{Refusal, Found, refuses, and_then, part, here, at_place}
use Rattle.dk_checker.specs.Found as found
use Rattle.dk_checker.specs.Asking.{depth, on_product, asks, asks_sort, asks_body, asks_product, normal_form}
use Rattle.dk_checker.specs.Inference.{more_types}
use Rattle.dk_checker.specs.View.{class_of, pair_of, under_of, context_of, variables, IsStop, Stopped, Tells, InPart}
use Rattle.dk_checker.specs.Told.{is_product, found_in, found_as, product_found, reduced_found, under_found, binder_found, abstraction_found}
use Rattle.dk_checker.proofs.Variables.{last_removed, last_got}
use Rattle.dk_checker.proofs.Told.{stopped_then, stopped_of, stopped_by, stopped_here, tells_part, tells_then, tells_of}
use Rattle.dk_checker.proofs.Telling.{err_of, ok_of, no_product_then, application_goes, function_reduced, under_tells, under_stops, abstraction_is, product_is}

pub stopped_by_memory : {A : Type 0} (m : Found A) (e : Stop) → e ≡ stops.Memory → Stopped m e
stopped_by_memory m e h = subst (λ d. Stopped m d) (sym h) tt

-- what holds where an answer is given holds where it is given in its part
pub kept_part : {A : Type 0} (P : Type 0) (i : ℕ) (given r : Result A Stop) (x : A) → OnOk given P → InPart i given r → r ≡ Ok x → P
kept_part P i (Ok y) r x k p e = k
kept_part P i (Err f) r x k p e = absurd (grind (arith, e, p.1))

pub kept_in_part : {A : Type 0} (P : Type 0) (i : ℕ) (given r : Result A Stop) → OnOk given P → InPart i given r → OnOk r P
kept_in_part P i (Ok y) r k p = subst (λ s. OnOk s P) (sym p) k
kept_in_part P i (Err f) r k p = subst (λ s. OnOk s P) (sym p.1) tt

pub kept_anyway : {A : Type 0} (P : Type 0) (r : Result A Stop) → P → OnOk r P
kept_anyway P (Ok x) k = k
kept_anyway P (Err e) k = tt

pub kept_then : {A T : Type 0} (r : Result A Stop) (x y z : T) → OnOk r (x ≡ y) → y ≡ z → OnOk r (x ≡ z)
kept_then (Ok a) x y z k e = k ∙ e
kept_then (Err d) x y z k e = tt

-- an answer that is told in its part
pub part_gives : {A B : Type 0} (view : A → B) (i : ℕ) (m : Found B) (given r : Result A Stop) (x : A) → Tells view m given → InPart i given r → r ≡ Ok x → part i m ≡ Found.gives (view x)
part_gives view i m given r x t p e = ok_of view (part i m) r x (tells_part view i m given r t p) e

pub part_stops : {A B : Type 0} (view : A → B) (i : ℕ) (m : Found B) (given r : Result A Stop) (e : Stop) → Tells view m given → InPart i given r → r ≡ Err e → Stopped (part i m) e
part_stops view i m given r e t p h = err_of view (part i m) r e (tells_part view i m given r t p) h

-- the normal form of an applied part's type, which is asked to be a product
abbrev asked_form : List Entry → ℕ → ℕ → List Lp → plain.Lp → plain.Lp → Found (plain.Lp × plain.Lp)
asked_form sigma limit chain ts t u =
    on_product u (λ a b. and_then (here (more_types sigma limit chain (context_of ts) t u)) (λ _. Found.gives (a, b)))
    (refuses (Refusal.not_product (Class.of t) (Class.of u)))

module _ (sigma : List Entry) (limit chain : ℕ) (ts : List Lp) where
  reduced_is : (n : ℕ) (t u : plain.Lp) → n ≡ depth (context_of ts) → normal_form sigma limit n t ≡ Found.gives u → reduced_found sigma limit chain ts t ≡ asked_form sigma limit chain ts t u
  reduced_is n t u d e = ap (λ m. and_then m (asked_form sigma limit chain ts t)) (ap (λ k. normal_form sigma limit k t) (sym d) ∙ e)

  pub reduced_form_stops : (n : ℕ) (t : plain.Lp) (e : Stop) → n ≡ depth (context_of ts) → Stopped (normal_form sigma limit n t) e → Stopped (reduced_found sigma limit chain ts t) e
  reduced_form_stops n t e d h =
      stopped_then (normal_form sigma limit (depth (context_of ts)) t) (asked_form sigma limit chain ts t) e (subst (λ k. Stopped (normal_form sigma limit k t) e) d h)

  pub reduced_no_product : (n : ℕ) (t u : plain.Lp) (e : Stop) → n ≡ depth (context_of ts) → normal_form sigma limit n t ≡ Found.gives u → is_product u ≡ false →
      IsStop (found.Stop.refused [] (Refusal.not_product (Class.of t) (Class.of u))) e → Stopped (reduced_found sigma limit chain ts t) e
  reduced_no_product n t u e d f p h =
      stopped_by (found.Stop.refused [] (Refusal.not_product (Class.of t) (Class.of u))) e h (reduced_found sigma limit chain ts t)
      (reduced_is n t u d f ∙ no_product_then u (λ a b. and_then (here (more_types sigma limit chain (context_of ts) t u)) (λ _. Found.gives (a, b))) (refuses (Refusal.not_product (Class.of t) (Class.of u))) p)

  reduced_asks : (n : ℕ) (t u a b : plain.Lp) → n ≡ depth (context_of ts) → normal_form sigma limit n t ≡ Found.gives u → u ≡ plain.Lp.prod a b →
      reduced_found sigma limit chain ts t ≡ and_then (here (more_types sigma limit chain (context_of ts) t (plain.Lp.prod a b))) (λ _. Found.gives (a, b))
  reduced_asks n t u a b d f p = reduced_is n t u d f ∙ ap (asked_form sigma limit chain ts t) p

  pub reduced_asked_stops : (n : ℕ) (t u a b : plain.Lp) (e : Stop) → n ≡ depth (context_of ts) → normal_form sigma limit n t ≡ Found.gives u → u ≡ plain.Lp.prod a b →
      Stopped (here (more_types sigma limit chain (context_of ts) t (plain.Lp.prod a b))) e → Stopped (reduced_found sigma limit chain ts t) e
  reduced_asked_stops n t u a b e d f p h =
      stopped_of (reduced_found sigma limit chain ts t) (and_then (here (more_types sigma limit chain (context_of ts) t (plain.Lp.prod a b))) (λ _. Found.gives (a, b))) e
      (reduced_asks n t u a b d f p) (stopped_then (here (more_types sigma limit chain (context_of ts) t (plain.Lp.prod a b))) (λ _. Found.gives (a, b)) e h)

  pub reduced_ends : (n : ℕ) (t u : plain.Lp) (a b : Lp) → n ≡ depth (context_of ts) → normal_form sigma limit n t ≡ Found.gives u → u ≡ plain.Lp.prod (term_of a) (term_of b) →
      here (more_types sigma limit chain (context_of ts) t (plain.Lp.prod (term_of a) (term_of b))) ≡ Found.gives tt → reduced_found sigma limit chain ts t ≡ Found.gives (pair_of (a, b))
  reduced_ends n t u a b d f p h =
      reduced_asks n t u (term_of a) (term_of b) d f p ∙ ap (λ m. and_then m (λ _. Found.gives (term_of a, term_of b))) h

  -- what is asked further
  pub more_none : (t u : plain.Lp) (e : Stop) → chain ≡ 0 → IsStop (found.Stop.spent t) e → Stopped (here (more_types sigma limit chain (context_of ts) t u)) e
  more_none t u e z h =
      stopped_by (found.Stop.spent t) e h (here (more_types sigma limit chain (context_of ts) t u)) (ap (λ k. here (more_types sigma limit k (context_of ts) t u)) z)

  pub more_stops : (left : ℕ) (t u : plain.Lp) (e d : Stop) → chain ≡ suc left → Stopped (found_in sigma limit left ts 0 u) e → ((s : found.Stop) → IsStop s e → IsStop (at_place s) d) →
      Stopped (here (more_types sigma limit chain (context_of ts) t u)) d
  more_stops left t u e d z h f =
      subst (λ k. Stopped (here (more_types sigma limit k (context_of ts) t u)) d) (sym z)
      (stopped_here (more_types sigma limit (suc left) (context_of ts) t u) e d f (stopped_then (found_in sigma limit left ts 0 u) (λ _. Found.gives tt) e h))

  pub more_ends : (left : ℕ) (t u : plain.Lp) (c : Class) → chain ≡ suc left → found_in sigma limit left ts 0 u ≡ Found.gives c → here (more_types sigma limit chain (context_of ts) t u) ≡ Found.gives tt
  more_ends left t u c z h =
      ap (λ k. here (more_types sigma limit k (context_of ts) t u)) z ∙ ap (λ m. here (and_then m (λ _. Found.gives tt))) h

module _ (sigma : List Entry) (limit chain : ℕ) (ts : List Lp) (inner : ℕ) where
  -- an application
  pub application_asked_stops : {U : Type 0} (us : List Lp) (f a : plain.Lp) (g r : Result (Lp × Lp) Stop) (x : Lp × Lp) (h i : Result U Stop) (e : Stop) → us ≡ ts →
      Tells pair_of (product_found sigma limit chain ts inner f) g → InPart 0 g r → r ≡ Ok x →
      Tells (λ _. tt) (found_as sigma limit chain us inner (Class.of (term_of x.0)) a) h → InPart 1 h i → i ≡ Err e → Stopped (found_in sigma limit chain ts inner (plain.Lp.app f a)) e
  application_asked_stops {U} us f a g r x h i e same t p q v w y =
      application_goes sigma limit chain ts inner class_of f a g r x (Err e) t p q
      (stopped_then (part 1 (found_as sigma limit chain ts inner (Class.of (term_of x.0)) a)) (λ _. Found.gives (Class.of (opened (term_of x.1) (instance_at 0 (variables (length ts) inner) a)))) e
      (part_stops (λ (u : U). tt) 1 (found_as sigma limit chain ts inner (Class.of (term_of x.0)) a) h i e
      (subst (λ ws. Tells (λ (u : U). tt) (found_as sigma limit chain ws inner (Class.of (term_of x.0)) a) h) same v) w y))

  pub application_ends : {U : Type 0} (us vs : List Lp) (f a : plain.Lp) (g r : Result (Lp × Lp) Stop) (x : Lp × Lp) (h i : Result U Stop) (o : U) (s : Result code.Class Stop) → us ≡ ts → vs ≡ ts →
      Tells pair_of (product_found sigma limit chain ts inner f) g → InPart 0 g r → r ≡ Ok x →
      Tells (λ _. tt) (found_as sigma limit chain us inner (Class.of (term_of x.0)) a) h → InPart 1 h i → i ≡ Ok o →
      Tells class_of (Found.gives (Class.of (opened (term_of x.1) (instance_at 0 (variables (length vs) inner) a)))) s → Tells class_of (found_in sigma limit chain ts inner (plain.Lp.app f a)) s
  application_ends {U} us vs f a g r x h i o s same equal t p q v w y z =
      application_goes sigma limit chain ts inner class_of f a g r x s t p q
      (tells_then class_of (part 1 (found_as sigma limit chain ts inner (Class.of (term_of x.0)) a)) (λ _. Found.gives (Class.of (opened (term_of x.1) (instance_at 0 (variables (length ts) inner) a)))) tt s
      (part_gives (λ (u : U). tt) 1 (found_as sigma limit chain ts inner (Class.of (term_of x.0)) a) h i o
      (subst (λ ws. Tells (λ (u : U). tt) (found_as sigma limit chain ws inner (Class.of (term_of x.0)) a) h) same v) w y)
      (subst (λ ws. Tells class_of (Found.gives (Class.of (opened (term_of x.1) (instance_at 0 (variables (length ws) inner) a)))) s) equal z))

  -- an applied part
  pub function_stops : (f : plain.Lp) (e : Stop) → Stopped (found_in sigma limit chain ts inner f) e → Stopped (product_found sigma limit chain ts inner f) e
  function_stops f e h = stopped_then (found_in sigma limit chain ts inner f) (asks_product sigma limit (more_types sigma limit chain) (context_of ts)) e h

  pub function_kind : (f : plain.Lp) (e : Stop) → found_in sigma limit chain ts inner f ≡ Found.gives Class.kind → IsStop (found.Stop.refused [] (Refusal.not_product Class.kind Class.kind)) e →
      Stopped (product_found sigma limit chain ts inner f) e
  function_kind f e h k =
      stopped_by (found.Stop.refused [] (Refusal.not_product Class.kind Class.kind)) e k (product_found sigma limit chain ts inner f)
      (ap (λ m. and_then m (asks_product sigma limit (more_types sigma limit chain) (context_of ts))) h)

  pub function_ends : (us : List Lp) (f : plain.Lp) (t : Lp) (r : Result (Lp × Lp) Stop) → us ≡ ts → found_in sigma limit chain ts inner f ≡ Found.gives (Class.of (term_of t)) → is_product (term_of t) ≡ false →
      Tells pair_of (reduced_found sigma limit chain us (term_of t)) r → Tells pair_of (product_found sigma limit chain ts inner f) r
  function_ends us f t r same e n q =
      function_reduced sigma limit chain ts inner f t r e n (subst (λ ws. Tells pair_of (reduced_found sigma limit chain ws (term_of t)) r) same q)

  -- a part that is to have a class
  pub as_stops : (wanted : Class) (t : plain.Lp) (e : Stop) → Stopped (found_in sigma limit chain ts inner t) e → Stopped (found_as sigma limit chain ts inner wanted t) e
  as_stops wanted t e h = stopped_then (found_in sigma limit chain ts inner t) (asks sigma limit (depth (context_of ts)) wanted) e h

  pub as_ends : {U : Type 0} (n : ℕ) (wanted c : Class) (t : plain.Lp) (r : Result U Stop) → n ≡ depth (context_of ts) → found_in sigma limit chain ts inner t ≡ Found.gives c →
      Tells (λ _. tt) (asks sigma limit n wanted c) r → Tells (λ _. tt) (found_as sigma limit chain ts inner wanted t) r
  as_ends {U} n wanted c t r d e h =
      tells_then (λ (u : U). tt) (found_in sigma limit chain ts inner t) (asks sigma limit (depth (context_of ts)) wanted) c r e
      (subst (λ k. Tells (λ (u : U). tt) (asks sigma limit k wanted c) r) d h)

  -- an abstraction and a product
  pub abstraction_stops : (a t : plain.Lp) (e : Stop) → Stopped (binder_found sigma limit chain ts inner a t) e → Stopped (found_in sigma limit chain ts inner (plain.Lp.abs a t)) e
  abstraction_stops a t e h =
      stopped_of (found_in sigma limit chain ts inner (plain.Lp.abs a t)) (and_then (binder_found sigma limit chain ts inner a t) (abstraction_found (depth (context_of ts)))) e
      (abstraction_is sigma limit chain ts inner a t) (stopped_then (binder_found sigma limit chain ts inner a t) (abstraction_found (depth (context_of ts))) e h)

  pub abstraction_ends : (n : ℕ) (a t : plain.Lp) (p : plain.Lp × Class) (r : Result code.Class Stop) → n ≡ depth (context_of ts) → binder_found sigma limit chain ts inner a t ≡ Found.gives p →
      Tells class_of (abstraction_found n p) r → Tells class_of (found_in sigma limit chain ts inner (plain.Lp.abs a t)) r
  abstraction_ends n a t p r d e h =
      tells_of class_of (found_in sigma limit chain ts inner (plain.Lp.abs a t)) (and_then (binder_found sigma limit chain ts inner a t) (abstraction_found (depth (context_of ts)))) r
      (abstraction_is sigma limit chain ts inner a t)
      (tells_then class_of (binder_found sigma limit chain ts inner a t) (abstraction_found (depth (context_of ts))) p r e (subst (λ k. Tells class_of (abstraction_found k p) r) d h))

  pub product_stops : (a t : plain.Lp) (e : Stop) → Stopped (binder_found sigma limit chain ts inner a t) e → Stopped (found_in sigma limit chain ts inner (plain.Lp.prod a t)) e
  product_stops a t e h =
      stopped_of (found_in sigma limit chain ts inner (plain.Lp.prod a t)) (and_then (binder_found sigma limit chain ts inner a t) (λ p. part 1 (asks_sort sigma limit (suc (depth (context_of ts))) p.1))) e
      (product_is sigma limit chain ts inner a t) (stopped_then (binder_found sigma limit chain ts inner a t) (λ p. part 1 (asks_sort sigma limit (suc (depth (context_of ts))) p.1)) e h)

  pub product_ends : (n m : ℕ) (a t : plain.Lp) (p : plain.Lp × Class) (g r : Result code.Class Stop) → n ≡ depth (context_of ts) → m ≡ suc n → binder_found sigma limit chain ts inner a t ≡ Found.gives p →
      Tells class_of (asks_sort sigma limit m p.1) g → InPart 1 g r → Tells class_of (found_in sigma limit chain ts inner (plain.Lp.prod a t)) r
  product_ends n m a t p g r d s e h i =
      tells_of class_of (found_in sigma limit chain ts inner (plain.Lp.prod a t)) (and_then (binder_found sigma limit chain ts inner a t) (λ p. part 1 (asks_sort sigma limit (suc (depth (context_of ts))) p.1))) r
      (product_is sigma limit chain ts inner a t)
      (tells_then class_of (binder_found sigma limit chain ts inner a t) (λ p. part 1 (asks_sort sigma limit (suc (depth (context_of ts))) p.1)) p r e
      (tells_part class_of 1 (asks_sort sigma limit (suc (depth (context_of ts))) p.1) g r
      (subst (λ k. Tells class_of (asks_sort sigma limit k p.1) g) (s ∙ ap suc d) h) i))

  -- a binder
  pub binder_domain_stops : {U : Type 0} (a t : plain.Lp) (w : Class) (h i : Result U Stop) (e : Stop) → w ≡ Class.of plain.Lp.sort →
      Tells (λ _. tt) (found_as sigma limit chain ts inner w a) h → InPart 0 h i → i ≡ Err e → Stopped (binder_found sigma limit chain ts inner a t) e
  binder_domain_stops {U} a t w h i e k v p q =
      stopped_then (part 0 (found_as sigma limit chain ts inner (Class.of plain.Lp.sort) a)) (λ _. part 1 (under_found sigma limit chain ts inner (instance_at 0 (variables (length ts) inner) a) t)) e
      (part_stops (λ (u : U). tt) 0 (found_as sigma limit chain ts inner (Class.of plain.Lp.sort) a) h i e
      (subst (λ c. Tells (λ (u : U). tt) (found_as sigma limit chain ts inner c a) h) k v) p q)

  pub binder_ends : {U : Type 0} (us vs : List Lp) (a t domain : plain.Lp) (w : Class) (h i : Result U Stop) (o : U) (g r : Result (Lp × code.Class) Stop) → us ≡ ts → vs ≡ ts → w ≡ Class.of plain.Lp.sort →
      Tells (λ _. tt) (found_as sigma limit chain ts inner w a) h → InPart 0 h i → i ≡ Ok o → domain ≡ instance_at 0 (variables (length us) inner) a →
      Tells under_of (under_found sigma limit chain vs inner domain t) g → InPart 1 g r → Tells under_of (binder_found sigma limit chain ts inner a t) r
  binder_ends {U} us vs a t domain w h i o g r same equal k v p q d x y =
      let e : domain ≡ instance_at 0 (variables (length ts) inner) a = d ∙ ap (λ ws. instance_at 0 (variables (length ws) inner) a) same in
      tells_then under_of (part 0 (found_as sigma limit chain ts inner (Class.of plain.Lp.sort) a)) (λ _. part 1 (under_found sigma limit chain ts inner (instance_at 0 (variables (length ts) inner) a) t)) tt r
      (part_gives (λ (u : U). tt) 0 (found_as sigma limit chain ts inner (Class.of plain.Lp.sort) a) h i o
      (subst (λ c. Tells (λ (u : U). tt) (found_as sigma limit chain ts inner c a) h) k v) p q)
      (tells_part under_of 1 (under_found sigma limit chain ts inner (instance_at 0 (variables (length ts) inner) a) t) g r
      (subst (λ b. Tells under_of (under_found sigma limit chain ts inner b t) g) e (subst (λ ws. Tells under_of (under_found sigma limit chain ws inner domain t) g) equal x)) y)

  -- under a binder
  pub pushed_stops : (us : List Lp) (m : ℕ) (x : Lp) (t : plain.Lp) (e : Stop) → us ≡ ts ++ x ∷ [] → m ≡ suc inner → Stopped (found_in sigma limit chain us m t) e →
      Stopped (under_found sigma limit chain ts inner (term_of x) t) e
  pushed_stops us m x t e p s h =
      under_stops sigma limit chain ts inner x t e (subst (λ k. Stopped (found_in sigma limit chain (ts ++ x ∷ []) k t) e) s (subst (λ ws. Stopped (found_in sigma limit chain ws m t) e) p h))

  pub pushed_ends : (us vs : List Lp) (m : ℕ) (x y : Lp) (t : plain.Lp) (c : code.Class) → us ≡ ts ++ x ∷ [] → vs ≡ us → m ≡ suc inner → found_in sigma limit chain us m t ≡ Found.gives (class_of c) →
      slice_get vs (length ts) ≡ Some y → under_found sigma limit chain ts inner (term_of x) t ≡ Found.gives (under_of (y, c))
  pushed_ends us vs m x y t c p w s h g =
      under_tells sigma limit chain ts inner x t c (ap₂ (λ ws k. found_in sigma limit chain ws k t) (sym p) (sym s) ∙ h)
      ∙ ap (λ z. Found.gives (under_of (z, c))) (got_one x y (sym (last_got ts x) ∙ ap (λ ws. slice_get ws (length ts)) (sym (w ∙ p)) ∙ g))
    where
      got_one : (x y : Lp) → Some x ≡ Some y → x ≡ y
      got_one x y e = cc

pub pushed_kept : (ts us vs : List Lp) (x : Lp) → us ≡ ts ++ x ∷ [] → vs ≡ remove us (length ts) → vs ≡ ts
pushed_kept ts us vs x p e = e ∙ ap (λ ws. remove ws (length ts)) p ∙ last_removed ts x

pub body_stops : (n : ℕ) (domain : plain.Lp) (c : Class) (g r : Result Lp Stop) (e : Stop) → Tells term_of (asks_body c) g → InPart 1 g r → r ≡ Err e → Stopped (abstraction_found n (domain, c)) e
body_stops n domain c g r e t p h =
    stopped_then (part 1 (asks_body c)) (λ b. Found.gives (Class.of (plain.Lp.prod domain (closed n b)))) e (part_stops term_of 1 (asks_body c) g r e t p h)

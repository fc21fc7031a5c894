-- What an inference tells at each end of the functions that make it.
use Rattle.std.proofs.Common.{ℕ, suc, ◌≡◌, List, [], ◌∷◌, ◌++◌, false, refl, sym, ap, ap₂, ◌∙◌, subst, arith}
use Rattle.std.specs.Prelude.{Result, Ok, Err, length}
use Rattle.lp_terms.specs.declared.term.Lp.{Lp}
use Rattle.lp_terms.specs.View.{term_of}
use Rattle.lp_terms.specs.Term as plain
use Rattle.lp_terms.specs.Term.{opened}
use Rattle.lp_terms.specs.Signature.{Entry}
use Rattle.lp_terms.specs.Reduction.{instance_at}
use Rattle.lp_terms.specs.Typing.{Class, Context}
use Rattle.dk_checker.specs.declared.stop.Stop.{Stop}
use Rattle.dk_checker.specs.declared.verdict.Class as code
use Rattle.dk_checker.specs.Found.{Found, and_then, part}
use Rattle.dk_checker.specs.Asking.{depth, on_product, asks_sort, asks_product}
use Rattle.dk_checker.specs.Inference.{infer, more_types}
use Rattle.dk_checker.specs.View.{class_of, pair_of, under_of, context_of, variables, Stopped, Tells, InPart}
use Rattle.dk_checker.specs.Told.{is_product, found_in, found_as, product_found, reduced_found, under_found, binder_found, abstraction_found}
use Rattle.dk_checker.proofs.Variables.{depth_context, context_push, length_push}
use Rattle.dk_checker.proofs.Told.{stopped_then, stopped_of, tells_part, tells_then, tells_of, binder_abstraction, binder_product}

pub err_of : {A B : Type 0} (view : A → B) (m : Found B) (r : Result A Stop) (e : Stop) → Tells view m r → r ≡ Err e → Stopped m e
err_of view m r e t p = subst (λ x. Tells view m x) p t

pub ok_of : {A B : Type 0} (view : A → B) (m : Found B) (r : Result A Stop) (x : A) → Tells view m r → r ≡ Ok x → m ≡ Found.gives (view x)
ok_of view m r x t p = subst (λ y. Tells view m y) p t

pub no_product_then : {A : Type 0} (t : plain.Lp) (f : plain.Lp → plain.Lp → A) (other : A) → is_product t ≡ false → on_product t f other ≡ other
no_product_then (plain.Lp.prod a b) f other h = absurd (grind (arith, h))
no_product_then plain.Lp.sort f other h = refl
no_product_then (plain.Lp.const name) f other h = refl
no_product_then (plain.Lp.free n) f other h = refl
no_product_then (plain.Lp.index i) f other h = refl
no_product_then (plain.Lp.app g a) f other h = refl
no_product_then (plain.Lp.abs a t) f other h = refl

module _ (sigma : List Entry) (limit chain : ℕ) (ts : List Lp) (inner : ℕ) where
  -- an application
  pub application_stops : (f a : plain.Lp) (g r : Result (Lp × Lp) Stop) (e : Stop) → Tells pair_of (product_found sigma limit chain ts inner f) g → InPart 0 g r → r ≡ Err e →
      Stopped (found_in sigma limit chain ts inner (plain.Lp.app f a)) e
  application_stops f a g r e t p h =
      stopped_then (part 0 (product_found sigma limit chain ts inner f)) _ e
      (err_of pair_of (part 0 (product_found sigma limit chain ts inner f)) r e (tells_part pair_of 0 (product_found sigma limit chain ts inner f) g r t p) h)

  pub application_goes : {C : Type 0} (view : C → Class) (f a : plain.Lp) (g r : Result (Lp × Lp) Stop) (x : Lp × Lp) (s : Result C Stop) →
      Tells pair_of (product_found sigma limit chain ts inner f) g → InPart 0 g r → r ≡ Ok x →
      Tells view (and_then (part 1 (found_as sigma limit chain ts inner (Class.of (term_of x.0)) a)) (λ _. Found.gives (Class.of (opened (term_of x.1) (instance_at 0 (variables (length ts) inner) a))))) s →
      Tells view (found_in sigma limit chain ts inner (plain.Lp.app f a)) s
  application_goes view f a g r x s t p h q =
      tells_then view (part 0 (product_found sigma limit chain ts inner f)) _ (pair_of x) s
      (ok_of pair_of (part 0 (product_found sigma limit chain ts inner f)) r x (tells_part pair_of 0 (product_found sigma limit chain ts inner f) g r t p) h) q

  -- an applied part
  pub function_reduced : (f : plain.Lp) (t : Lp) (r : Result (Lp × Lp) Stop) → found_in sigma limit chain ts inner f ≡ Found.gives (Class.of (term_of t)) → is_product (term_of t) ≡ false →
      Tells pair_of (reduced_found sigma limit chain ts (term_of t)) r → Tells pair_of (product_found sigma limit chain ts inner f) r
  function_reduced f t r e n q =
      tells_then pair_of (found_in sigma limit chain ts inner f) (asks_product sigma limit (more_types sigma limit chain) (context_of ts)) (Class.of (term_of t)) r e
      (tells_of pair_of _ (reduced_found sigma limit chain ts (term_of t)) r (no_product_then (term_of t) _ (reduced_found sigma limit chain ts (term_of t)) n) q)

  pub function_is_product : (f : plain.Lp) (t : plain.Lp) (x : Lp × Lp) → found_in sigma limit chain ts inner f ≡ Found.gives (Class.of t) → t ≡ plain.Lp.prod (term_of x.0) (term_of x.1) →
      product_found sigma limit chain ts inner f ≡ Found.gives (pair_of x)
  function_is_product f t x e p =
      ap (λ m. and_then m (asks_product sigma limit (more_types sigma limit chain) (context_of ts))) (e ∙ ap (λ u. Found.gives (Class.of u)) p)

  -- under a binder
  pub under_is : (x : Lp) (t : plain.Lp) → found_in sigma limit chain (ts ++ x ∷ []) (suc inner) t
      ≡ infer sigma limit (more_types sigma limit chain) (Context.bind (depth (context_of ts)) (term_of x) (context_of ts))
      (plain.Lp.free (depth (context_of ts)) ∷ variables (length ts) inner) t
  under_is x t =
      ap₂ (λ g us. infer sigma limit (more_types sigma limit chain) g us t) (context_push ts x)
      (ap (λ n. variables n (suc inner)) (length_push ts x) ∙ ap (λ n. plain.Lp.free n ∷ variables (length ts) inner) (sym (depth_context ts)))

  pub under_tells : (x : Lp) (t : plain.Lp) (c : code.Class) → found_in sigma limit chain (ts ++ x ∷ []) (suc inner) t ≡ Found.gives (class_of c) →
      under_found sigma limit chain ts inner (term_of x) t ≡ Found.gives (under_of (x, c))
  under_tells x t c e = ap (λ m. and_then m (λ k. Found.gives (term_of x, k))) (sym (under_is x t) ∙ e)

  pub under_stops : (x : Lp) (t : plain.Lp) (e : Stop) → Stopped (found_in sigma limit chain (ts ++ x ∷ []) (suc inner) t) e →
      Stopped (under_found sigma limit chain ts inner (term_of x) t) e
  under_stops x t e h = stopped_then _ (λ k. Found.gives (term_of x, k)) e (stopped_of _ (found_in sigma limit chain (ts ++ x ∷ []) (suc inner) t) e (sym (under_is x t)) h)

  -- an abstraction and a product, from what is found of a binder
  pub abstraction_is : (a t : plain.Lp) → found_in sigma limit chain ts inner (plain.Lp.abs a t)
      ≡ and_then (binder_found sigma limit chain ts inner a t) (abstraction_found (depth (context_of ts)))
  abstraction_is a t = binder_abstraction (depth (context_of ts)) (part 0 (found_as sigma limit chain ts inner (Class.of plain.Lp.sort) a)) _ _

  pub product_is : (a t : plain.Lp) → found_in sigma limit chain ts inner (plain.Lp.prod a t)
      ≡ and_then (binder_found sigma limit chain ts inner a t) (λ p. part 1 (asks_sort sigma limit (suc (depth (context_of ts))) p.1))
  product_is a t = binder_product (part 0 (found_as sigma limit chain ts inner (Class.of plain.Lp.sort) a)) _ (instance_at 0 (variables (length ts) inner) a) (asks_sort sigma limit (suc (depth (context_of ts))))

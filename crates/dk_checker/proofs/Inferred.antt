-- The inferred type of a part is a type of it; an accepted entry is well formed.
use Rattle.std.proofs.Common.{ℕ, zero, suc, ◌≡◌, ◌≤◌, ◌+◌, List, [], ◌∷◌, length, Bool, true, false, cond, ◌&&◌, ◌==◌, Option, Some, None, IfSome, refl, sym, ap, ◌∙◌, subst, arith}
use Rattle.std.proofs.lemmas.Slice.Eq.{bytes_eq-Decides}
use Rattle.std.proofs.lemmas.Bool.{and_parts}
use Rattle.std.specs.Str.{bytes_eq}
use Rattle.lp_terms.specs.Term.{Lp, opened, closed}
use Rattle.lp_terms.specs.Signature.{Entry, Holds, Declares, SignatureHasNoFree}
use Rattle.lp_terms.specs.Signature as sig
use Rattle.lp_terms.specs.Reduction.{instance_at, Reduces, Converts}
use Rattle.lp_terms.specs.Reduction as red
use Rattle.lp_terms.specs.Typing.{Context, Binds, Class, IsSort, IsNew, IsUnbound, Has, IsContext, IsSorted}
use Rattle.lp_terms.specs.Typing as ty
use Rattle.lp_terms.specs.WellFormed.{rule_variables, rule_context, HaveType, head, IsByDef, IsWellFormedEntry}
use Rattle.lp_terms.specs.WellFormed as wf
use Rattle.lp_terms.proofs.Terms.{same_of_test}
use Rattle.lp_terms.proofs.Sames.{same-true}
use Rattle.lp_terms.proofs.Substitution.{converts_trans, converts_sym}
use Rattle.lp_terms.proofs.Binders.{typed_closed, typed_fresh, product_by, abstraction_by}
use Rattle.lp_terms.proofs.Sorts.{class_sorted, product_parts}
use Rattle.lp_terms.proofs.Promises.{closing_undoes_opening}
use Rattle.lp_reduce.specs.Scope.{IsScoped, AreScopedTypes, IsScopedEntry, IsScopedSignature}
use Rattle.lp_reduce.specs.Scope as sc
use Rattle.lp_reduce.specs.Normal.{Normal, normal}
use Rattle.lp_reduce.proofs.Scoped.{scoped_fresh, scoped_more, scoped_open, AreTerms, scoped_instance, instance_app, instance_abs, instance_prod, instance_const, instance_sort, instance_free, entry_no_free}
use Rattle.lp_reduce.proofs.Steps.{on_first, on_test, normal_reaches}
use Rattle.dk_checker.specs.Found.{Refusal, Found, refuses, and_then, part, here, IfGives}
use Rattle.dk_checker.specs.Asking.{same_class, is_sort, depth, or_unbound, declared_type, type_of_constant, type_of_variable, of_variable, is_definable, is_by_def, or_spent, asks_body, normal_form, normal_class, asks, asks_sort, asks_product, asks_head}
use Rattle.dk_checker.specs.Inference.{infer, more_types, type_of, check_context, check_sides, check_entry}
use Rattle.dk_checker.proofs.Answers.{if_part, if_here, if_each, if_part_then, if_then_each, if_cond, if_product}
use Rattle.dk_checker.proofs.Contexts.{scoped_of, IsNumbered, not_bound}

not_true : false ≡ true → ⊥
not_true h = grind (arith, h)

module _ (sigma : List Entry) (limit : ℕ) (w : IsScopedSignature sigma) (z : SignatureHasNoFree sigma) (sorted : (c : List ℕ) (type : Lp) → Declares sigma c type → (s : Class) × IsSort s × Has sigma Context.empty type s) where
  abbrev pub IsOk : Context → Type 0
  IsOk g = IsContext sigma g × IsNumbered g

  -- what is typed holds the variables of the context alone
  typed_scoped : {t : Lp} {c : Class} (g : Context) → IsOk g → Has sigma g t c → IsScoped (depth g) 0 t
  typed_scoped g ok h = scoped_of (typed_closed h) (λ x le. typed_fresh x (not_bound g x ok.1 le) h)

  is_new : (g : Context) (x : ℕ) → IsOk g → depth g ≤ x → IsNew x g
  is_new Context.empty x ok h = tt
  is_new (Context.bind n a g) x ok h =
      ((let e : n ≡ depth g = ok.1.0 in omega arith), typed_fresh x (not_bound g x ok.1.1 (omega arith)) ok.0.0, is_new g x (ok.0.1, ok.1.1) (omega arith))

  bound_ok : (g : Context) (a : Lp) → IsOk g → Has sigma g a (Class.of Lp.sort) → IsOk (Context.bind (depth g) a g)
  bound_ok g a ok h = ((h, ok.0), (refl, ok.1))

  -- classes that convert
  abbrev pub ConvertsClass : Class → Class → Type 0
  ConvertsClass Class.kind Class.kind = Unit {0}
  ConvertsClass (Class.of t) (Class.of u) = Converts sigma t u
  ConvertsClass _ _ = ⊥

  abbrev pub IsScopedClass : Context → Class → Type 0
  IsScopedClass g Class.kind = Unit {0}
  IsScopedClass g (Class.of t) = IsScoped (depth g) 0 t

  sorted_scoped : (g : Context) (c : Class) → IsOk g → IsSorted sigma g c → IsScopedClass g c
  sorted_scoped g Class.kind ok h = tt
  sorted_scoped g (Class.of t) ok h = typed_scoped g ok h.2

  class_same : (c : Class) → ConvertsClass c c
  class_same Class.kind = tt
  class_same (Class.of t) = red.Converts.same

  class_joined : (c d e : Class) → ConvertsClass c e → ConvertsClass d e → ConvertsClass c d
  class_joined Class.kind Class.kind Class.kind p q = tt
  class_joined Class.kind Class.kind (Class.of v) p q = absurd p
  class_joined Class.kind (Class.of u) Class.kind p q = absurd q
  class_joined Class.kind (Class.of u) (Class.of v) p q = absurd p
  class_joined (Class.of t) Class.kind Class.kind p q = absurd p
  class_joined (Class.of t) Class.kind (Class.of v) p q = absurd q
  class_joined (Class.of t) (Class.of u) Class.kind p q = absurd p
  class_joined (Class.of t) (Class.of u) (Class.of v) p q = converts_trans p (converts_sym q)

  same_class_equal : (c d : Class) → same_class c d ≡ true → c ≡ d
  same_class_equal Class.kind Class.kind h = refl
  same_class_equal (Class.of t) (Class.of u) h = ap Class.of (same-true t u h)
  same_class_equal _ _ h = absurd (not_true h)

  is_sort_sort : (c : Class) → is_sort c ≡ true → IsSort c
  is_sort_sort Class.kind h = ty.IsSort.is_kind
  is_sort_sort (Class.of Lp.sort) h = ty.IsSort.is_type
  is_sort_sort _ h = absurd (not_true h)

  spent_reaches : (n : ℕ) (t : Lp) (o : Option Normal) → IfSome o (λ r. Converts sigma t r.form × IsScoped n 0 r.form) → IfGives (or_spent t o) (λ u. Converts sigma t u × IsScoped n 0 u)
  spent_reaches n t (Some r) p = p
  spent_reaches n t None p = tt

  normal_form_reaches : (g : Context) (t : Lp) → IsScoped (depth g) 0 t → IfGives (normal_form sigma limit (depth g) t) (λ u. Converts sigma t u × IsScoped (depth g) 0 u)
  normal_form_reaches g t s = spent_reaches (depth g) t (normal sigma (depth g) limit t) (normal_reaches sigma z w (depth g) limit t s)

  normal_class_reaches : (g : Context) (c : Class) → IsScopedClass g c → IfGives (normal_class sigma limit (depth g) c) (λ d. ConvertsClass c d)
  normal_class_reaches g Class.kind s = tt
  normal_class_reaches g (Class.of t) s =
      if_then_each (λ u. Converts sigma t u × IsScoped (depth g) 0 u) (λ d. ConvertsClass (Class.of t) d) (normal_form sigma limit (depth g) t) (λ u. Found.gives (Class.of u)) (normal_form_reaches g t s) (λ u p. p.0)

  -- what a place asks
  asks_converts : (g : Context) (wanted found : Class) → IsScopedClass g wanted → IsScopedClass g found → IfGives (asks sigma limit (depth g) wanted found) (λ o. ConvertsClass found wanted)
  asks_converts g wanted found s r =
      if_cond (λ o. ConvertsClass found wanted) (same_class found wanted) (Found.gives tt) _
      (λ e. subst (λ c. ConvertsClass found c) (same_class_equal found wanted e) (class_same found))
      (if_then_each (λ d. ConvertsClass found d) (λ o. ConvertsClass found wanted) (normal_class sigma limit (depth g) found) _ (normal_class_reaches g found r) (λ f p.
      if_then_each (λ d. ConvertsClass wanted d) (λ o. ConvertsClass found wanted) (normal_class sigma limit (depth g) wanted) _ (normal_class_reaches g wanted s) (λ v q.
      if_cond (λ o. ConvertsClass found wanted) (same_class f v) (Found.gives tt) (refuses (Refusal.mismatch found wanted f v))
      (λ e. class_joined found wanted v (subst (λ c. ConvertsClass found c) (same_class_equal f v e) p) q) tt)))

  take_class : (g : Context) (t : Lp) (found wanted : Class) → Has sigma g t found → ConvertsClass found wanted → IsSorted sigma g wanted → Has sigma g t wanted
  take_class g t Class.kind Class.kind h p s = h
  take_class g t Class.kind (Class.of u) h p s = absurd p
  take_class g t (Class.of v) Class.kind h p s = absurd p
  take_class g t (Class.of v) (Class.of u) h p s = ty.Has.conversion h p s.2 s.1

  asks_typed : (g : Context) (t : Lp) (wanted found : Class) → IsOk g → IsSorted sigma g wanted → Has sigma g t found → IfGives (asks sigma limit (depth g) wanted found) (λ o. Has sigma g t wanted)
  asks_typed g t wanted found ok s h =
      if_each (λ o. ConvertsClass found wanted) (λ o. Has sigma g t wanted) (asks sigma limit (depth g) wanted found)
      (asks_converts g wanted found (sorted_scoped g wanted ok s) (sorted_scoped g found ok (class_sorted sigma z sorted ok.0 h)))
      (λ o p. take_class g t found wanted h p s)

  sort_sorted : (g : Context) (s : Class) → IsSort s → IsSorted sigma g s
  sort_sorted g Class.kind i = tt
  sort_sorted g (Class.of t) ty.IsSort.is_type = (Class.kind, ty.IsSort.is_kind, ty.Has.sort)

  asks_sort_typed : (g : Context) (t : Lp) (found : Class) → IsOk g → Has sigma g t found → IfGives (asks_sort sigma limit (depth g) found) (λ s. IsSort s × Has sigma g t s)
  asks_sort_typed g t found ok h =
      if_cond (λ s. IsSort s × Has sigma g t s) (is_sort found) (Found.gives found) _
      (λ e. (is_sort_sort found e, h))
      (if_then_each (λ d. ConvertsClass found d) (λ s. IsSort s × Has sigma g t s) (normal_class sigma limit (depth g) found) _
      (normal_class_reaches g found (sorted_scoped g found ok (class_sorted sigma z sorted ok.0 h))) (λ f p.
      if_cond (λ s. IsSort s × Has sigma g t s) (is_sort f) (Found.gives f) (refuses (Refusal.not_sort found f))
      (λ e. (is_sort_sort f e, take_class g t found f h p (sort_sorted g f (is_sort_sort f e)))) tt))

  -- constants and variables
  type_found : (entries : List Entry) (name : List ℕ) → ((e : Entry) → Holds entries e → Holds sigma e) → IfSome (type_of_constant entries name) (λ t. Declares sigma name t)
  type_found [] name h = tt
  type_found (e ∷ entries) name h =
      on_first (λ t. Declares sigma name t) (declared_type e name) (type_of_constant entries name) (by_entry e (h e sig.Holds.first)) (type_found entries name (λ d i. h d (sig.Holds.later i)))
    where
      by_entry : (e : Entry) → Holds sigma e → IfSome (declared_type e name) (λ t. Declares sigma name t)
      by_entry (Entry.declare c definable type) i = on_test (λ t. Declares sigma name t) (bytes_eq c name) type (λ e. subst (λ d. Declares sigma d type) ((bytes_eq-Decides c name).0 e) (sig.Declares.declared i))
      by_entry (Entry.rule context left right) i = tt
      by_entry (Entry.define c type body) i = on_test (λ t. Declares sigma name t) (bytes_eq c name) type (λ e. subst (λ d. Declares sigma d type) ((bytes_eq-Decides c name).0 e) (sig.Declares.defined i))

  variable_test : (g : Context) (n m : ℕ) (a : Lp) (b : Bool) (o : Option Lp) → (b ≡ true → m ≡ n) → IfSome o (λ t. Binds g n t) → IfSome (cond b (Some a) o) (λ t. Binds (Context.bind m a g) n t)
  variable_test g n m a true o e p = subst (λ k. Binds (Context.bind m a g) k a) (e refl) ty.Binds.here
  variable_test g n m a false (Some t) e p = ty.Binds.outside p
  variable_test g n m a false None e p = tt

  variable_found : (g : Context) (n : ℕ) → IfSome (type_of_variable g n) (λ t. Binds g n t)
  variable_found Context.empty n = tt
  variable_found (Context.bind m a g) n = variable_test g n m a (m == n) (type_of_variable g n) (same_of_test m n) (variable_found g n)

  or_unbound_typed : (g : Context) (u : Lp) (o : Option Lp) → IfSome o (λ t. Has sigma g u (Class.of t)) → IfGives (or_unbound o) (λ c. Has sigma g u c)
  or_unbound_typed g u (Some t) p = p
  or_unbound_typed g u None p = tt

  constant_typed : (g : Context) (name : List ℕ) (o : Option Lp) → IfSome o (λ t. Declares sigma name t) → IfSome o (λ t. Has sigma g (Lp.const name) (Class.of t))
  constant_typed g name (Some t) p = ty.Has.constant p
  constant_typed g name None p = tt

  variable_typed : (g : Context) (n : ℕ) (o : Option Lp) → IfSome o (λ t. Binds g n t) → IfSome o (λ t. Has sigma g (Lp.free n) (Class.of t))
  variable_typed g n (Some t) p = ty.Has.variable p
  variable_typed g n None p = tt

  of_variable_typed : (g : Context) (u : Lp) → IfGives (of_variable g u) (λ c. Has sigma g u c)
  of_variable_typed g (Lp.free n) = or_unbound_typed g (Lp.free n) (type_of_variable g n) (variable_typed g n (type_of_variable g n) (variable_found g n))
  of_variable_typed _ _ = tt

  -- the product of an applied part
  abbrev pub IsOkMore : (Context → Lp → Lp → Found (Unit {0})) → Type 0
  IsOkMore more = (g : Context) (t u : Lp) → IsOk g → IsScoped (depth g) 0 u → IfGives (more g t u) (λ o. (c : Class) × Has sigma g u c)

  to_product : (g : Context) (f t u a b : Lp) → u ≡ Lp.prod a b → Converts sigma t u → Has sigma g f (Class.of t) → (c : Class) × Has sigma g u c → Has sigma g f (Class.of (Lp.prod a b))
  to_product g f t u a b e k h c =
      let parts : Has sigma g a (Class.of Lp.sort) × ((s : Class) × IsSort s × ((bound : ℕ) × ((n : ℕ) → bound ≤ n → Has sigma (Context.bind n a g) (opened b (Lp.free n)) s)))
      = product_parts (subst (λ v. Has sigma g v c.0) e c.1) in
      ty.Has.conversion h (subst (λ v. Converts sigma t v) e k) (ty.Has.product parts.1.2.0 parts.0 parts.1.2.1 parts.1.1) parts.1.1

  asks_product_typed : (more : Context → Lp → Lp → Found (Unit {0})) → IsOkMore more → (g : Context) (f : Lp) (c : Class) → IsOk g → Has sigma g f c →
      IfGives (asks_product sigma limit more g c) (λ p. Has sigma g f (Class.of (Lp.prod p.0 p.1)))
  asks_product_typed more m g f Class.kind ok h = tt
  asks_product_typed more m g f (Class.of t) ok h =
      let P : Lp × Lp → Type 0 = λ p. Has sigma g f (Class.of (Lp.prod p.0 p.1)) in
      if_product P t (λ a b. Found.gives (a, b)) _ (λ a b e. subst (λ v. Has sigma g f (Class.of v)) e h)
      (if_then_each (λ u. Converts sigma t u × IsScoped (depth g) 0 u) P (normal_form sigma limit (depth g) t) _
      (normal_form_reaches g t (sorted_scoped g (Class.of t) ok (class_sorted sigma z sorted ok.0 h))) (λ u r.
      if_product P u _ (refuses (Refusal.not_product (Class.of t) (Class.of u)))
      (λ a b e. if_then_each (λ o. (c : Class) × Has sigma g u c) P (here (more g t u)) (λ o. Found.gives (a, b))
      (if_here (λ o. (c : Class) × Has sigma g u c) (more g t u) (m g t u ok r.1)) (λ o c. to_product g f t u a b e r.0 h c)) tt))

  -- the parts of a part, over closed terms
  app_typed : (more : Context → Lp → Lp → Found (Unit {0})) → IsOkMore more → (g : Context) (f a : Lp) (mf ma : Found Class) → IsOk g → IfGives mf (λ c. Has sigma g f c) → IfGives ma (λ c. Has sigma g a c) →
      IfGives (and_then (part 0 (and_then mf (asks_product sigma limit more g))) (λ p. and_then (part 1 (and_then ma (asks sigma limit (depth g) (Class.of p.0)))) (λ o. Found.gives (Class.of (opened p.1 a))))) (λ c. Has sigma g (Lp.app f a) c)
  app_typed more m g f a mf ma ok p q =
      let P : Lp × Lp → Type 0 = λ r. Has sigma g f (Class.of (Lp.prod r.0 r.1)) in
      let Q : Class → Type 0 = λ c. Has sigma g (Lp.app f a) c in
      if_part_then P Q 0 (and_then mf (asks_product sigma limit more g)) _
      (if_then_each (λ c. Has sigma g f c) P mf (asks_product sigma limit more g) p (λ c h. asks_product_typed more m g f c ok h))
      (λ r h. if_part_then (λ o. Has sigma g a (Class.of r.0)) Q 1 (and_then ma (asks sigma limit (depth g) (Class.of r.0))) _
      (if_then_each (λ c. Has sigma g a c) (λ o. Has sigma g a (Class.of r.0)) ma (asks sigma limit (depth g) (Class.of r.0)) q (λ c k.
      asks_typed g a (Class.of r.0) c ok (Class.of Lp.sort, ty.IsSort.is_type, (product_parts (class_sorted sigma z sorted ok.0 h).2).0) k))
      (λ o k. ty.Has.application h k))

  -- a domain asks Type
  domain_typed : (g : Context) (a : Lp) (ma : Found Class) → IsOk g → IfGives ma (λ c. Has sigma g a c) → IfGives (and_then ma (asks sigma limit (depth g) (Class.of Lp.sort))) (λ o. Has sigma g a (Class.of Lp.sort))
  domain_typed g a ma ok p = if_then_each (λ c. Has sigma g a c) (λ o. Has sigma g a (Class.of Lp.sort)) ma (asks sigma limit (depth g) (Class.of Lp.sort)) p
      (λ c k. asks_typed g a (Class.of Lp.sort) c ok (Class.kind, ty.IsSort.is_kind, ty.Has.sort) k)

  body_typed : (g : Context) (t : Lp) (c : Class) → Has sigma g t c → IfGives (asks_body c) (λ b. Has sigma g t (Class.of b))
  body_typed g t Class.kind h = tt
  body_typed g t (Class.of b) h = h

  abs_typed : (g : Context) (a t : Lp) (ma mt : Found Class) → IsOk g → IsScoped (depth g) 0 (Lp.abs a t) → IfGives ma (λ c. Has sigma g a c) →
      (Has sigma g a (Class.of Lp.sort) → IfGives mt (λ c. Has sigma (Context.bind (depth g) a g) (opened t (Lp.free (depth g))) c)) →
      IfGives (and_then (part 0 (and_then ma (asks sigma limit (depth g) (Class.of Lp.sort)))) (λ o. and_then (part 1 (and_then mt asks_body)) (λ b. Found.gives (Class.of (Lp.prod a (closed (depth g) b)))))) (λ c. Has sigma g (Lp.abs a t) c)
  abs_typed g a t ma mt ok (sc.IsScoped.abs s r) p q =
      let d : ℕ = depth g in
      let P : Class → Type 0 = λ c. Has sigma g (Lp.abs a t) c in
      let B : Lp → Type 0 = λ b. Has sigma (Context.bind d a g) (opened t (Lp.free d)) (Class.of b) in
      if_part_then (λ o. Has sigma g a (Class.of Lp.sort)) P 0 (and_then ma (asks sigma limit (depth g) (Class.of Lp.sort))) _ (domain_typed g a ma ok p) (λ o h.
      if_part_then B P 1 (and_then mt asks_body) _
      (if_then_each (λ c. Has sigma (Context.bind d a g) (opened t (Lp.free d)) c) B mt asks_body (q h) (λ c k. body_typed (Context.bind d a g) (opened t (Lp.free d)) c k))
      (λ b k.
      let v : (s : Class) × IsSort s × Has sigma (Context.bind d a g) b s = class_sorted sigma z sorted (bound_ok g a ok h).0 k in
      subst (λ u. Has sigma g (Lp.abs a u) (Class.of (Lp.prod a (closed d b)))) (closing_undoes_opening t d (scoped_fresh d (omega arith) r))
      (abstraction_by d z (is_new g d ok (omega arith)) h v.2 v.1 k)))

  prod_typed : (g : Context) (a t : Lp) (ma mt : Found Class) → IsOk g → IsScoped (depth g) 0 (Lp.prod a t) → IfGives ma (λ c. Has sigma g a c) →
      (Has sigma g a (Class.of Lp.sort) → IfGives mt (λ c. Has sigma (Context.bind (depth g) a g) (opened t (Lp.free (depth g))) c)) →
      IfGives (and_then (part 0 (and_then ma (asks sigma limit (depth g) (Class.of Lp.sort)))) (λ o. part 1 (and_then mt (asks_sort sigma limit (suc (depth g)))))) (λ c. Has sigma g (Lp.prod a t) c)
  prod_typed g a t ma mt ok (sc.IsScoped.prod s r) p q =
      let d : ℕ = depth g in
      let P : Class → Type 0 = λ c. Has sigma g (Lp.prod a t) c in
      if_part_then (λ o. Has sigma g a (Class.of Lp.sort)) P 0 (and_then ma (asks sigma limit (depth g) (Class.of Lp.sort))) _ (domain_typed g a ma ok p) (λ o h.
      if_part P 1 (and_then mt (asks_sort sigma limit (suc d)))
      (if_then_each (λ c. Has sigma (Context.bind d a g) (opened t (Lp.free d)) c) P mt (asks_sort sigma limit (suc d)) (q h) (λ c k.
      if_each (λ s. IsSort s × Has sigma (Context.bind d a g) (opened t (Lp.free d)) s) P (asks_sort sigma limit (suc d) c)
      (asks_sort_typed (Context.bind d a g) (opened t (Lp.free d)) c (bound_ok g a ok h) k)
      (λ v e. subst (λ u. Has sigma g (Lp.prod a u) v) (closing_undoes_opening t d (scoped_fresh d (omega arith) r))
      (product_by d z (is_new g d ok (omega arith)) h e.1 e.0)))))

  left_of : {n k : ℕ} {f a : Lp} → IsScoped n k (Lp.app f a) → IsScoped n k f
  left_of (sc.IsScoped.app s r) = s

  right_of : {n k : ℕ} {f a : Lp} → IsScoped n k (Lp.app f a) → IsScoped n k a
  right_of (sc.IsScoped.app s r) = r

  abs_domain : {n k : ℕ} {f a : Lp} → IsScoped n k (Lp.abs f a) → IsScoped n k f
  abs_domain (sc.IsScoped.abs s r) = s

  abs_body : {n : ℕ} {f a : Lp} → IsScoped n 0 (Lp.abs f a) → IsScoped (suc n) 0 (opened a (Lp.free n))
  abs_body {n} (sc.IsScoped.abs s r) = scoped_open (Lp.free n) (scoped_more (suc n) 1 (omega arith) (omega arith) r) (sc.IsScoped.free (omega arith))

  prod_domain : {n k : ℕ} {f a : Lp} → IsScoped n k (Lp.prod f a) → IsScoped n k f
  prod_domain (sc.IsScoped.prod s r) = s

  prod_body : {n : ℕ} {f a : Lp} → IsScoped n 0 (Lp.prod f a) → IsScoped (suc n) 0 (opened a (Lp.free n))
  prod_body {n} (sc.IsScoped.prod s r) = scoped_open (Lp.free n) (scoped_more (suc n) 1 (omega arith) (omega arith) r) (sc.IsScoped.free (omega arith))

  -- the inferred type of a part is a type of it
  pub infer_typed : (more : Context → Lp → Lp → Found (Unit {0})) → IsOkMore more → (g : Context) (us : List Lp) (t : Lp) → IsOk g → IsScoped (depth g) 0 (instance_at 0 us t) →
      IfGives (infer sigma limit more g us t) (λ c. Has sigma g (instance_at 0 us t) c)
  infer_typed more m g us Lp.sort ok s = subst (λ v. Has sigma g v Class.kind) (sym (instance_sort 0 us)) ty.Has.sort
  infer_typed more m g us (Lp.const name) ok s =
      subst (λ v. IfGives (infer sigma limit more g us (Lp.const name)) (λ c. Has sigma g v c)) (sym (instance_const 0 us name))
      (or_unbound_typed g (Lp.const name) (type_of_constant sigma name) (constant_typed g name (type_of_constant sigma name) (type_found sigma name (λ e h. h))))
  infer_typed more m g us (Lp.free n) ok s =
      subst (λ v. IfGives (infer sigma limit more g us (Lp.free n)) (λ c. Has sigma g v c)) (sym (instance_free 0 us n)) (of_variable_typed g (Lp.free n))
  infer_typed more m g us (Lp.index i) ok s = of_variable_typed g (instance_at 0 us (Lp.index i))
  infer_typed more m g us (Lp.app f a) ok s =
      let r : IsScoped (depth g) 0 (Lp.app (instance_at 0 us f) (instance_at 0 us a)) = subst (λ v. IsScoped (depth g) 0 v) (instance_app 0 us f a) s in
      subst (λ v. IfGives (infer sigma limit more g us (Lp.app f a)) (λ c. Has sigma g v c)) (sym (instance_app 0 us f a))
      (app_typed more m g (instance_at 0 us f) (instance_at 0 us a) (infer sigma limit more g us f) (infer sigma limit more g us a) ok
      (infer_typed more m g us f ok (left_of r)) (infer_typed more m g us a ok (right_of r)))
  infer_typed more m g us (Lp.abs a t) ok s =
      let r : IsScoped (depth g) 0 (Lp.abs (instance_at 0 us a) (instance_at 1 us t)) = subst (λ v. IsScoped (depth g) 0 v) (instance_abs 0 us a t) s in
      subst (λ v. IfGives (infer sigma limit more g us (Lp.abs a t)) (λ c. Has sigma g v c)) (sym (instance_abs 0 us a t))
      (abs_typed g (instance_at 0 us a) (instance_at 1 us t) (infer sigma limit more g us a) (infer sigma limit more (Context.bind (depth g) (instance_at 0 us a) g) (Lp.free (depth g) ∷ us) t) ok r
      (infer_typed more m g us a ok (abs_domain r))
      (λ h. infer_typed more m (Context.bind (depth g) (instance_at 0 us a) g) (Lp.free (depth g) ∷ us) t (bound_ok g (instance_at 0 us a) ok h) (abs_body r)))
  infer_typed more m g us (Lp.prod a t) ok s =
      let r : IsScoped (depth g) 0 (Lp.prod (instance_at 0 us a) (instance_at 1 us t)) = subst (λ v. IsScoped (depth g) 0 v) (instance_prod 0 us a t) s in
      subst (λ v. IfGives (infer sigma limit more g us (Lp.prod a t)) (λ c. Has sigma g v c)) (sym (instance_prod 0 us a t))
      (prod_typed g (instance_at 0 us a) (instance_at 1 us t) (infer sigma limit more g us a) (infer sigma limit more (Context.bind (depth g) (instance_at 0 us a) g) (Lp.free (depth g) ∷ us) t) ok r
      (infer_typed more m g us a ok (prod_domain r))
      (λ h. infer_typed more m (Context.bind (depth g) (instance_at 0 us a) g) (Lp.free (depth g) ∷ us) t (bound_ok g (instance_at 0 us a) ok h) (prod_body r)))

  -- however many types a chain may still get
  more_ok : (chain : ℕ) → IsOkMore (more_types sigma limit chain)
  more_ok zero g t u ok s = tt
  more_ok (suc chain) g t u ok s =
      if_then_each (λ c. Has sigma g u c) (λ o. (c : Class) × Has sigma g u c) (infer sigma limit (more_types sigma limit chain) g [] u) (λ c. Found.gives tt)
      (infer_typed (more_types sigma limit chain) (more_ok chain) g [] u ok s) (λ c h. (c, h))

  pub type_of_typed : (g : Context) (us : List Lp) (t : Lp) → IsOk g → IsScoped (depth g) 0 (instance_at 0 us t) → IfGives (type_of sigma limit g us t) (λ c. Has sigma g (instance_at 0 us t) c)
  type_of_typed g us t ok s = infer_typed (more_types sigma limit 64) (more_ok 64) g us t ok s

  -- the entries
  sort_of_typed : (t : Lp) → IsScoped 0 0 t → IfGives (and_then (type_of sigma limit Context.empty [] t) (asks_sort sigma limit 0)) (λ s. IsSort s × Has sigma Context.empty t s)
  sort_of_typed t s = if_then_each (λ c. Has sigma Context.empty t c) (λ v. IsSort v × Has sigma Context.empty t v) (type_of sigma limit Context.empty [] t) (asks_sort sigma limit 0)
      (type_of_typed Context.empty [] t (tt, tt) s) (λ c h. asks_sort_typed Context.empty t c (tt, tt) h)

  terms_more : (k : ℕ) (us : List Lp) → AreTerms k us → AreTerms (suc k) us
  terms_more k [] a = tt
  terms_more k (u ∷ us) a = (scoped_more (suc k) 0 (omega arith) (omega arith) a.0, terms_more k us a.1)

  -- a rule's context that has been checked
  abbrev pub IsChecked : List Lp → ℕ → List Lp → Context → Type 0
  IsChecked types k us g = HaveType sigma types k us g × IsOk (rule_context types k us g) × AreTerms (depth (rule_context types k us g)) (rule_variables types k us)
      × (length (rule_variables types k us) ≡ k + length types)

  context_typed : (types : List Lp) (k : ℕ) (us : List Lp) (g : Context) → IsOk g → k ≡ depth g → AreTerms k us → length us ≡ k → AreScopedTypes k types →
      IfGives (check_context sigma limit types k us g) (λ o. IsChecked types k us g)
  context_typed [] k us g ok e a l s = (tt, ok, subst (λ n. AreTerms n us) e a, (let f : length us ≡ k = l in omega arith))
  context_typed (type ∷ types) k us g ok e a l s =
      let T : Lp = instance_at 0 us type in
      if_part_then (λ o. Has sigma g T (Class.of Lp.sort)) (λ o. IsChecked (type ∷ types) k us g) k (and_then (type_of sigma limit g us type) (asks sigma limit (depth g) (Class.of Lp.sort))) _
      (domain_typed g T (type_of sigma limit g us type) ok
      (type_of_typed g us type ok (subst (λ n. IsScoped n 0 T) e (scoped_instance k 0 us type (scoped_more k (0 + length us) (omega arith) (omega arith) s.0) a))))
      (λ o h. if_each (λ o. IsChecked types (suc k) (Lp.free k ∷ us) (Context.bind k T g)) (λ o. IsChecked (type ∷ types) k us g) (check_context sigma limit types (suc k) (Lp.free k ∷ us) (Context.bind k T g))
      (context_typed types (suc k) (Lp.free k ∷ us) (Context.bind k T g) ((h, ok.0), (e, ok.1)) (ap suc e) (sc.IsScoped.free (omega arith), terms_more k us a) (ap suc l) s.1)
      (λ o c. ((h, c.0), c.1, c.2, (let f : length (rule_variables types (suc k) (Lp.free k ∷ us)) ≡ suc k + length types = c.3 in omega arith))))

  -- a rule's left side has no Kind
  head_instance : (us : List Lp) (t : Lp) (name : List ℕ) → head t ≡ Lp.const name → head (instance_at 0 us t) ≡ Lp.const name
  head_instance us (Lp.const c) name h = ap head (instance_const 0 us c) ∙ h
  head_instance us (Lp.app f a) name h = ap head (instance_app 0 us f a) ∙ head_instance us f name h
  head_instance us Lp.sort name h = ap head (instance_sort 0 us) ∙ h
  head_instance us (Lp.free n) name h = ap head (instance_free 0 us n) ∙ h
  head_instance us (Lp.index i) name h = absurd (grind (arith, h))
  head_instance us (Lp.abs a b) name h = absurd (grind (arith, h))
  head_instance us (Lp.prod a b) name h = absurd (grind (arith, h))

  not_kind : (g : Context) (t : Lp) (name : List ℕ) → head t ≡ Lp.const name → Has sigma g t Class.kind → ⊥
  not_kind g Lp.sort name h ty.Has.sort = grind (arith, h)
  not_kind g (Lp.prod a b) name h (ty.Has.product bound p f i) = grind (arith, h)
  not_kind g (Lp.const c) name h k = elim k [ ]
  not_kind g (Lp.free n) name h k = elim k [ ]
  not_kind g (Lp.index i) name h k = elim k [ ]
  not_kind g (Lp.app f a) name h k = elim k [ ]
  not_kind g (Lp.abs a b) name h k = elim k [ ]

  -- the two sides have one type
  abbrev pub SidesHave : Context → Lp → Lp → Type 0
  SidesHave g l r = (common : Lp) × Has sigma g l (Class.of common) × Has sigma g r (Class.of common)

  sides_typed : (k : ℕ) (us : List Lp) (g : Context) (left right : Lp) (name : List ℕ) → IsOk g → head left ≡ Lp.const name → IsScoped (depth g) 0 (instance_at 0 us left) → IsScoped (depth g) 0 (instance_at 0 us right) →
      IfGives (check_sides sigma limit k us g left right) (λ o. SidesHave g (instance_at 0 us left) (instance_at 0 us right))
  sides_typed k us g left right name ok e s r =
      let L : Lp = instance_at 0 us left in
      let R : Lp = instance_at 0 us right in
      if_part_then (λ c. Has sigma g L c) (λ o. SidesHave g L R) k (type_of sigma limit g us left) _ (type_of_typed g us left ok s) (λ c h.
      if_part (λ o. SidesHave g L R) (suc k) (and_then (type_of sigma limit g us right) (asks sigma limit (depth g) c))
      (if_then_each (λ d. Has sigma g R d) (λ o. SidesHave g L R) (type_of sigma limit g us right) (asks sigma limit (depth g) c) (type_of_typed g us right ok r) (λ d q.
      if_each (λ o. Has sigma g R c) (λ o. SidesHave g L R) (asks sigma limit (depth g) c d) (asks_typed g R c d ok (class_sorted sigma z sorted ok.0 h) q) (λ o v. common c h v))))
    where
      common : (c : Class) → Has sigma g (instance_at 0 us left) c → Has sigma g (instance_at 0 us right) c → SidesHave g (instance_at 0 us left) (instance_at 0 us right)
      common Class.kind h v = absurd (not_kind g (instance_at 0 us left) name (head_instance us left name e) h)
      common (Class.of t) h v = (t, h, v)

  -- the head of a left side
  and_true : (a b : Bool) → (a && b) ≡ true → (a ≡ true) × (b ≡ true)
  and_true a b h = and_parts a b h

  defines_by_def : (e : Entry) (name : List ℕ) → Holds sigma e → is_definable e name ≡ true → IsByDef sigma name
  defines_by_def (Entry.declare c true type) name i h = subst (λ d. IsByDef sigma d) ((bytes_eq-Decides c name).0 h) (wf.IsByDef.declared i)
  defines_by_def (Entry.declare c false type) name i h = absurd (not_true h)
  defines_by_def (Entry.rule context left right) name i h = absurd (not_true h)
  defines_by_def (Entry.define c type body) name i h = subst (λ d. IsByDef sigma d) ((bytes_eq-Decides c name).0 h) (wf.IsByDef.defined i)

  by_def_test : (e : Entry) (entries : List Entry) (name : List ℕ) (b : Bool) → (b ≡ true → IsByDef sigma name) → (is_by_def entries name ≡ true → IsByDef sigma name) → cond b true (is_by_def entries name) ≡ true → IsByDef sigma name
  by_def_test e entries name true p q h = p refl
  by_def_test e entries name false p q h = q h

  by_def_found : (entries : List Entry) (name : List ℕ) → ((e : Entry) → Holds entries e → Holds sigma e) → is_by_def entries name ≡ true → IsByDef sigma name
  by_def_found [] name i h = absurd (not_true h)
  by_def_found (e ∷ entries) name i h =
      by_def_test e entries name (is_definable e name) (defines_by_def e name (i e sig.Holds.first)) (by_def_found entries name (λ d j. i d (sig.Holds.later j))) h

  abbrev pub HasHead : Lp → Type 0
  HasHead t = (name : List ℕ) × (t ≡ Lp.const name) × IsByDef sigma name

  head_checked : (t : Lp) → IfGives (asks_head sigma limit t) (λ o. HasHead t)
  head_checked (Lp.const name) = if_cond (λ o. HasHead (Lp.const name)) (is_by_def sigma name) (Found.gives tt) (refuses Refusal.rule_head) (λ e. (name, refl, by_def_found sigma name (λ d i. i) e)) tt
  head_checked _ = tt

  rule_checked : (context : List Lp) (left right : Lp) → IsScopedEntry (Entry.rule context left right) → HasHead (head left) → IsChecked context 0 [] Context.empty →
      IfGives (check_sides sigma limit (length context) (rule_variables context 0 []) (rule_context context 0 [] Context.empty) left right) (λ o. IsWellFormedEntry sigma (Entry.rule context left right))
  rule_checked context left right s h c =
      let g : Context = rule_context context 0 [] Context.empty in
      let us : List Lp = rule_variables context 0 [] in
      let l : length us ≡ 0 + length context = c.3 in
      let free = entry_no_free (Entry.rule context left right) s in
      if_each (λ o. SidesHave g (instance_at 0 us left) (instance_at 0 us right)) (λ o. IsWellFormedEntry sigma (Entry.rule context left right)) (check_sides sigma limit (length context) us g left right)
      (sides_typed (length context) us g left right h.0 c.1 h.1
      (scoped_instance (depth g) 0 us left (scoped_more (depth g) (0 + length us) (omega arith) (omega arith) s.1) c.2)
      (scoped_instance (depth g) 0 us right (scoped_more (depth g) (0 + length us) (omega arith) (omega arith) s.2) c.2))
      (λ o v. wf.IsWellFormedEntry.rule h.0 v.0 free.0 free.1 free.2 c.0 h.1 h.2 v.1 v.2)

  pub entry_checked : (e : Entry) → IsScopedEntry e → IfGives (check_entry sigma limit e) (λ o. IsWellFormedEntry sigma e)
  entry_checked (Entry.declare name definable type) s =
      let E : Entry = Entry.declare name definable type in
      if_part_then (λ v. IsSort v × Has sigma Context.empty type v) (λ o. IsWellFormedEntry sigma E) 0 (and_then (type_of sigma limit Context.empty [] type) (asks_sort sigma limit 0)) _ (sort_of_typed type s)
      (λ v h. wf.IsWellFormedEntry.declare h.1 h.0)
  entry_checked (Entry.define name type body) s =
      let E : Entry = Entry.define name type body in
      if_part_then (λ v. IsSort v × Has sigma Context.empty type v) (λ o. IsWellFormedEntry sigma E) 0 (and_then (type_of sigma limit Context.empty [] type) (asks_sort sigma limit 0)) _ (sort_of_typed type s.0)
      (λ v h. if_part (λ o. IsWellFormedEntry sigma E) 1 (and_then (type_of sigma limit Context.empty [] body) (asks sigma limit 0 (Class.of type)))
      (if_then_each (λ c. Has sigma Context.empty body c) (λ o. IsWellFormedEntry sigma E) (type_of sigma limit Context.empty [] body) (asks sigma limit 0 (Class.of type))
      (type_of_typed Context.empty [] body (tt, tt) s.1) (λ c q.
      if_each (λ o. Has sigma Context.empty body (Class.of type)) (λ o. IsWellFormedEntry sigma E) (asks sigma limit 0 (Class.of type) c)
      (asks_typed Context.empty body (Class.of type) c (tt, tt) (v, h.0, h.1) q) (λ o b. wf.IsWellFormedEntry.define h.1 h.0 b))))
  entry_checked (Entry.rule context left right) s =
      let E : Entry = Entry.rule context left right in
      if_then_each (λ o. HasHead (head left)) (λ o. IsWellFormedEntry sigma E) (asks_head sigma limit (head left)) _ (head_checked (head left)) (λ o h.
      if_then_each (λ o. IsChecked context 0 [] Context.empty) (λ o. IsWellFormedEntry sigma E) (check_context sigma limit context 0 [] Context.empty) _
      (context_typed context 0 [] Context.empty (tt, tt) refl tt refl s.0) (λ o c. rule_checked context left right s h c))

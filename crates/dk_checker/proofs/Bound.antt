-- No name or variable of a file is without a type.
use Rattle.std.proofs.Common.{ℕ, zero, suc, ◌≡◌, ◌≤◌, ◌<◌, ◌⊎◌, inl, inr, List, [], ◌∷◌, Option, Some, None, IfSome, Bool, true, false, cond, ◌==◌, refl, sym, ap, ◌∙◌, subst, arith}
use Rattle.lp_terms.specs.Term.{Lp, opened, closed}
use Rattle.lp_terms.specs.Signature.{Entry, SignatureHasNoFree}
use Rattle.lp_terms.specs.Reduction.{instance_at, Converts}
use Rattle.lp_terms.specs.Typing.{Context, Class}
use Rattle.lp_terms.specs.Names.{is_among}
use Rattle.lp_terms.proofs.Terms.{same_number, other_number}
use Rattle.lp_reduce.specs.Scope.{IsScoped, AreScopedTypes, IsScopedEntry, IsScopedSignature}
use Rattle.lp_reduce.specs.Scope as sc
use Rattle.lp_reduce.specs.Normal.{Normal, normal}
use Rattle.lp_reduce.proofs.Scoped.{scoped_more, scoped_open, scoped_close, instance_app, instance_abs, instance_prod, instance_free}
use Rattle.lp_reduce.proofs.Composed.{AreVariables, IsLeaf, instance_leaf}
use Rattle.lp_reduce.proofs.Steps.{normal_reaches}
use Rattle.dk_checker.specs.Found.{Refusal, Stop, Found, refuses, and_then, in_part, part, at_place, here}
use Rattle.dk_checker.specs.Asking.{same_class, is_sort, depth, or_unbound, type_of_constant, type_of_variable, of_variable, is_by_def, or_spent, asks_body, on_product, normal_form, normal_class, asks, asks_sort, asks_product, asks_head}
use Rattle.dk_checker.specs.Inference.{infer, more_types, type_of}
use Rattle.dk_checker.proofs.Named.{IsNamed, AreNamed, IsNamedSignature, named_open, named_close, named_instance, normal_named}

abbrev pub IsBound : Stop → Type 0
IsBound (Stop.refused path why) = Unit {0}
IsBound (Stop.spent from) = Unit {0}
IsBound Stop.unbound = ⊥

-- an answer meets P, and nothing is unbound
abbrev pub Bound : {A : Type 0} → (A → Type 0) → Found A → Type 0
Bound P (Found.gives x) = P x
Bound P (Found.stops s) = IsBound s

abbrev pub Any : {A : Type 0} → A → Type 0
Any x = Unit {0}

pub bound_then : {A B : Type 0} (P : A → Type 0) (Q : B → Type 0) (m : Found A) (f : A → Found B) → Bound P m → ((x : A) → P x → Bound Q (f x)) → Bound Q (and_then m f)
bound_then P Q (Found.gives x) f p g = g x p
bound_then P Q (Found.stops s) f p g = p

stop_in_part : (i : ℕ) (s : Stop) → IsBound s → IsBound (in_part i s)
stop_in_part i (Stop.refused path why) p = tt
stop_in_part i (Stop.spent from) p = tt
stop_in_part i Stop.unbound p = p

pub bound_part : {A : Type 0} (P : A → Type 0) (i : ℕ) (m : Found A) → Bound P m → Bound P (part i m)
bound_part P i (Found.gives x) p = p
bound_part P i (Found.stops s) p = stop_in_part i s p

stop_at_place : (s : Stop) → IsBound s → IsBound (at_place s)
stop_at_place (Stop.refused path why) p = tt
stop_at_place (Stop.spent from) p = tt
stop_at_place Stop.unbound p = p

bound_here : {A : Type 0} (P : A → Type 0) (m : Found A) → Bound P m → Bound P (here m)
bound_here P (Found.gives x) p = p
bound_here P (Found.stops s) p = stop_at_place s p

bound_cond : {A : Type 0} (P : A → Type 0) (b : Bool) (x y : Found A) → (b ≡ true → Bound P x) → Bound P y → Bound P (cond b x y)
bound_cond P true x y p q = p refl
bound_cond P false x y p q = q

bound_product : {A : Type 0} (P : A → Type 0) (t : Lp) (f : Lp → Lp → Found A) (other : Found A) → ((a b : Lp) → t ≡ Lp.prod a b → Bound P (f a b)) → Bound P other → Bound P (on_product t f other)
bound_product P (Lp.prod a b) f other p q = p a b refl
bound_product P Lp.sort f other p q = q
bound_product P (Lp.const name) f other p q = q
bound_product P (Lp.free n) f other p q = q
bound_product P (Lp.index i) f other p q = q
bound_product P (Lp.app g a) f other p q = q
bound_product P (Lp.abs a t) f other p q = q

some_both : {A : Type 0} (P Q : A → Type 0) (o : Option A) → IfSome o P → IfSome o Q → IfSome o (λ x. P x × Q x)
some_both P Q (Some x) p q = (p, q)
some_both P Q None p q = tt

below_or_same : (m n : ℕ) → m < suc n → (m ≡ n) ⊎ (m < n)
below_or_same m n h = grind (arith, h)

-- never unbound, whatever the types
spent_any : (t : Lp) (o : Option Normal) → Bound Any (or_spent t o)
spent_any t (Some m) = tt
spent_any t None = tt

module _ (sigma : List Entry) (limit : ℕ) where
  normal_class_any : (n : ℕ) (c : Class) → Bound Any (normal_class sigma limit n c)
  normal_class_any n Class.kind = tt
  normal_class_any n (Class.of t) = bound_then Any Any (normal_form sigma limit n t) (λ u. Found.gives (Class.of u)) (spent_any t (normal sigma n limit t)) (λ u p. tt)

  pub asks_any : (n : ℕ) (wanted found : Class) → Bound Any (asks sigma limit n wanted found)
  asks_any n wanted found = bound_cond Any (same_class found wanted) (Found.gives tt) _ (λ e. tt)
      (bound_then Any Any (normal_class sigma limit n found) _ (normal_class_any n found) (λ f p.
      bound_then Any Any (normal_class sigma limit n wanted) _ (normal_class_any n wanted) (λ v q.
      bound_cond Any (same_class f v) (Found.gives tt) (refuses (Refusal.mismatch found wanted f v)) (λ e. tt) tt)))

  abbrev IsTrueSort : Class → Type 0
  IsTrueSort c = is_sort c ≡ true

  pub asks_sort_any : (n : ℕ) (found : Class) → Bound IsTrueSort (asks_sort sigma limit n found)
  asks_sort_any n found = bound_cond IsTrueSort (is_sort found) (Found.gives found) _ (λ e. e)
      (bound_then Any IsTrueSort (normal_class sigma limit n found) _ (normal_class_any n found) (λ f p.
      bound_cond IsTrueSort (is_sort f) (Found.gives f) (refuses (Refusal.not_sort found f)) (λ e. e) tt))

  pub asks_head_any : (t : Lp) → Bound Any (asks_head sigma limit t)
  asks_head_any (Lp.const name) = bound_cond Any (is_by_def sigma name) (Found.gives tt) (refuses Refusal.rule_head) (λ e. tt) tt
  asks_head_any Lp.sort = tt
  asks_head_any (Lp.free n) = tt
  asks_head_any (Lp.index i) = tt
  asks_head_any (Lp.app f a) = tt
  asks_head_any (Lp.abs a b) = tt
  asks_head_any (Lp.prod a b) = tt

module _ (names : List (List ℕ)) where
  -- a type whose variables are below n and whose constants are declared
  abbrev pub IsGood : ℕ → Lp → Type 0
  IsGood n t = IsScoped n 0 t × IsNamed names t

  abbrev pub IsGoodClass : ℕ → Class → Type 0
  IsGoodClass n Class.kind = Unit {0}
  IsGoodClass n (Class.of t) = IsGood n t

  abbrev pub IsGoodContext : Context → Type 0
  IsGoodContext Context.empty = Unit {0}
  IsGoodContext (Context.bind n type g) = (n ≡ depth g) × IsGood (depth g) type × IsGoodContext g

  sort_good : (n : ℕ) (c : Class) → is_sort c ≡ true → IsGoodClass n c
  sort_good n Class.kind e = tt
  sort_good n (Class.of Lp.sort) e = (sc.IsScoped.sort, tt)
  sort_good n (Class.of (Lp.const name)) e = absurd (grind (arith, e))
  sort_good n (Class.of (Lp.free m)) e = absurd (grind (arith, e))
  sort_good n (Class.of (Lp.index i)) e = absurd (grind (arith, e))
  sort_good n (Class.of (Lp.app f a)) e = absurd (grind (arith, e))
  sort_good n (Class.of (Lp.abs a b)) e = absurd (grind (arith, e))
  sort_good n (Class.of (Lp.prod a b)) e = absurd (grind (arith, e))

  -- a type that is found
  abbrev pub FoundGood : ℕ → Option Lp → Type 0
  FoundGood n o = (type : Lp) × (o ≡ Some type) × IsGood n type

  good_more : (n m : ℕ) (t : Lp) → n ≤ m → IsGood n t → IsGood m t
  good_more n m t h p = (scoped_more m 0 h (omega arith) p.0, p.1)

  variable_good : (g : Context) (m : ℕ) → IsGoodContext g → m < depth g → FoundGood (depth g) (type_of_variable g m)
  variable_good Context.empty m ok h = absurd (omega (arith, h))
  variable_good (Context.bind n a g) m ok h = elim (below_or_same m (depth g) h) [
    | inl e ↦ (a, ap (λ b. cond b (Some a) (type_of_variable g m)) (ap (λ k. k == m) (ok.0 ∙ sym e) ∙ same_number m), good_more (depth g) (suc (depth g)) a (omega arith) ok.1)
    | inr i ↦ (let r : FoundGood (depth g) (type_of_variable g m) = variable_good g m ok.2 i in
        (r.0, ap (λ b. cond b (Some a) (type_of_variable g m)) (other_number n m (let e : n ≡ depth g = ok.0 in omega (arith, i, e))) ∙ r.1, good_more (depth g) (suc (depth g)) r.0 (omega arith) r.2))
  ]

  or_unbound_good : (n : ℕ) (o : Option Lp) → FoundGood n o → Bound (IsGoodClass n) (or_unbound o)
  or_unbound_good n o f = subst (λ x. Bound (IsGoodClass n) (or_unbound x)) (sym f.1) f.2

  leaf_good : (g : Context) (v : Lp) → IsGoodContext g → IsLeaf v → IsScoped (depth g) 0 v → Bound (IsGoodClass (depth g)) (of_variable g v)
  leaf_good g (Lp.free n) ok l (sc.IsScoped.free b) = or_unbound_good (depth g) (type_of_variable g n) (variable_good g n ok b)
  leaf_good g (Lp.index i) ok l (sc.IsScoped.index b) = absurd (omega (arith, b))
  leaf_good g Lp.sort ok l s = absurd l
  leaf_good g (Lp.const name) ok l s = absurd l
  leaf_good g (Lp.app f a) ok l s = absurd l
  leaf_good g (Lp.abs a b) ok l s = absurd l
  leaf_good g (Lp.prod a b) ok l s = absurd l

  pub variables_named : (us : List Lp) → AreVariables us → AreNamed names us
  variables_named [] a = tt
  variables_named (u ∷ us) a = (subst (IsNamed names) a.0.1 tt, variables_named us a.1)

  module _ (sigma : List Entry) (limit : ℕ) (w : IsScopedSignature sigma) (z : SignatureHasNoFree sigma) (named : IsNamedSignature names sigma)
      (declared : (name : List ℕ) → is_among name names ≡ true → FoundGood 0 (type_of_constant sigma name)) where
    spent_good : (n : ℕ) (t : Lp) (o : Option Normal) → IfSome o (λ r. IsGood n r.form) → Bound (IsGood n) (or_spent t o)
    spent_good n t (Some m) p = p
    spent_good n t None p = tt

    first_part : (P : Lp → Type 0) (n : ℕ) (t : Lp) (o : Option Normal) → IfSome o (λ r. P r.form × IsScoped n 0 r.form) → IfSome o (λ r. IsScoped n 0 r.form)
    first_part P n t (Some m) p = p.1
    first_part P n t None p = tt

    normal_form_good : (n : ℕ) (t : Lp) → IsGood n t → Bound (IsGood n) (normal_form sigma limit n t)
    normal_form_good n t p = spent_good n t (normal sigma n limit t)
        (some_both (λ r. IsScoped n 0 r.form) (λ r. IsNamed names r.form) (normal sigma n limit t)
        (first_part (λ u. Converts sigma t u) n t (normal sigma n limit t) (normal_reaches sigma z w n limit t p.0)) (normal_named names sigma named n limit t p.1))

    abbrev pub IsGoodMore : (Context → Lp → Lp → Found (Unit {0})) → Type 0
    IsGoodMore more = (g : Context) (t u : Lp) → IsGoodContext g → IsGood (depth g) u → Bound Any (more g t u)

    abbrev IsGoodProduct : ℕ → Lp × Lp → Type 0
    IsGoodProduct n p = IsGood n (Lp.prod p.0 p.1)

    asks_product_good : (more : Context → Lp → Lp → Found (Unit {0})) → IsGoodMore more → (g : Context) (c : Class) → IsGoodContext g → IsGoodClass (depth g) c →
        Bound (IsGoodProduct (depth g)) (asks_product sigma limit more g c)
    asks_product_good more m g Class.kind ok h = tt
    asks_product_good more m g (Class.of t) ok h =
        let P : Lp × Lp → Type 0 = IsGoodProduct (depth g) in
        bound_product P t (λ a b. Found.gives (a, b)) _ (λ a b e. subst (IsGood (depth g)) e h)
        (bound_then (IsGood (depth g)) P (normal_form sigma limit (depth g) t) _ (normal_form_good (depth g) t h) (λ u r.
        bound_product P u _ (refuses (Refusal.not_product (Class.of t) (Class.of u)))
        (λ a b e. bound_then Any P (here (more g t u)) (λ _. Found.gives (a, b)) (bound_here Any (more g t u) (m g t u ok r)) (λ x y. subst (IsGood (depth g)) e r)) tt))

    left_of : {n k : ℕ} {f a : Lp} → IsScoped n k (Lp.app f a) → IsScoped n k f
    left_of (sc.IsScoped.app s r) = s

    right_of : {n k : ℕ} {f a : Lp} → IsScoped n k (Lp.app f a) → IsScoped n k a
    right_of (sc.IsScoped.app s r) = r

    abs_domain : {n k : ℕ} {f a : Lp} → IsScoped n k (Lp.abs f a) → IsScoped n k f
    abs_domain (sc.IsScoped.abs s r) = s

    abs_body : {n : ℕ} {f a : Lp} → IsScoped n 0 (Lp.abs f a) → IsScoped (suc n) 0 (opened a (Lp.free n))
    abs_body {n} (sc.IsScoped.abs s r) = scoped_open (Lp.free n) (scoped_more (suc n) 1 (omega arith) (omega arith) r) (sc.IsScoped.free (omega arith))

    prod_domain : {n k : ℕ} {f a : Lp} → IsScoped n k (Lp.prod f a) → IsScoped n k f
    prod_domain (sc.IsScoped.prod s r) = s

    prod_codomain : {n k : ℕ} {f a : Lp} → IsScoped n k (Lp.prod f a) → IsScoped n (suc k) a
    prod_codomain (sc.IsScoped.prod s r) = r

    prod_body : {n : ℕ} {f a : Lp} → IsScoped n 0 (Lp.prod f a) → IsScoped (suc n) 0 (opened a (Lp.free n))
    prod_body {n} (sc.IsScoped.prod s r) = scoped_open (Lp.free n) (scoped_more (suc n) 1 (omega arith) (omega arith) r) (sc.IsScoped.free (omega arith))

    -- what is to have a type
    as_any : (n : ℕ) (wanted : Class) (m : Found Class) → Bound (IsGoodClass n) m → Bound Any (and_then m (asks sigma limit n wanted))
    as_any n wanted m p = bound_then (IsGoodClass n) Any m (asks sigma limit n wanted) p (λ c q. asks_any sigma limit n wanted c)

    app_good : (more : Context → Lp → Lp → Found (Unit {0})) → IsGoodMore more → (g : Context) (a : Lp) (mf ma : Found Class) → IsGoodContext g → IsGood (depth g) a →
        Bound (IsGoodClass (depth g)) mf → Bound (IsGoodClass (depth g)) ma →
        Bound (IsGoodClass (depth g)) (and_then (part 0 (and_then mf (asks_product sigma limit more g))) (λ p. and_then (part 1 (and_then ma (asks sigma limit (depth g) (Class.of p.0)))) (λ o. Found.gives (Class.of (opened p.1 a)))))
    app_good more m g a mf ma ok h p q =
        bound_then (IsGoodProduct (depth g)) (IsGoodClass (depth g)) (part 0 (and_then mf (asks_product sigma limit more g))) _
        (bound_part (IsGoodProduct (depth g)) 0 (and_then mf (asks_product sigma limit more g))
        (bound_then (IsGoodClass (depth g)) (IsGoodProduct (depth g)) mf (asks_product sigma limit more g) p (λ c r. asks_product_good more m g c ok r)))
        (λ r s. bound_then Any (IsGoodClass (depth g)) (part 1 (and_then ma (asks sigma limit (depth g) (Class.of r.0)))) _
        (bound_part Any 1 (and_then ma (asks sigma limit (depth g) (Class.of r.0))) (as_any (depth g) (Class.of r.0) ma q))
        (λ o x. (scoped_open a (prod_codomain s.0) h.0, named_open names 0 a r.1 h.1 s.1.1)))

    body_good : (n : ℕ) (c : Class) → IsGoodClass n c → Bound (IsGood n) (asks_body c)
    body_good n Class.kind h = tt
    body_good n (Class.of t) h = h

    abs_good : (n : ℕ) (a : Lp) (ma mt : Found Class) → IsGood n a → Bound (IsGoodClass n) ma → Bound (IsGoodClass (suc n)) mt →
        Bound (IsGoodClass n) (and_then (part 0 (and_then ma (asks sigma limit n (Class.of Lp.sort)))) (λ o. and_then (part 1 (and_then mt asks_body)) (λ b. Found.gives (Class.of (Lp.prod a (closed n b))))))
    abs_good n a ma mt h p q =
        bound_then Any (IsGoodClass n) (part 0 (and_then ma (asks sigma limit n (Class.of Lp.sort)))) _
        (bound_part Any 0 (and_then ma (asks sigma limit n (Class.of Lp.sort))) (as_any n (Class.of Lp.sort) ma p))
        (λ o x. bound_then (IsGood (suc n)) (IsGoodClass n) (part 1 (and_then mt asks_body)) _
        (bound_part (IsGood (suc n)) 1 (and_then mt asks_body) (bound_then (IsGoodClass (suc n)) (IsGood (suc n)) mt asks_body q (λ c r. body_good (suc n) c r)))
        (λ b r. (sc.IsScoped.prod h.0 (scoped_close n 0 b r.0), (h.1, named_close names 0 n b r.1))))

    prod_good : (n : ℕ) (ma mt : Found Class) → Bound (IsGoodClass n) ma → Bound (IsGoodClass (suc n)) mt →
        Bound (IsGoodClass n) (and_then (part 0 (and_then ma (asks sigma limit n (Class.of Lp.sort)))) (λ o. part 1 (and_then mt (asks_sort sigma limit (suc n)))))
    prod_good n ma mt p q =
        bound_then Any (IsGoodClass n) (part 0 (and_then ma (asks sigma limit n (Class.of Lp.sort)))) _
        (bound_part Any 0 (and_then ma (asks sigma limit n (Class.of Lp.sort))) (as_any n (Class.of Lp.sort) ma p))
        (λ o x. bound_part (IsGoodClass n) 1 (and_then mt (asks_sort sigma limit (suc n)))
        (bound_then (IsGoodClass (suc n)) (IsGoodClass n) mt (asks_sort sigma limit (suc n)) q (λ c r. sort_bound c)))
      where
        each_sort : (m : Found Class) → Bound (λ c. is_sort c ≡ true) m → Bound (IsGoodClass n) m
        each_sort (Found.gives c) e = sort_good n c e
        each_sort (Found.stops s) e = e

        sort_bound : (c : Class) → Bound (IsGoodClass n) (asks_sort sigma limit (suc n) c)
        sort_bound c = each_sort (asks_sort sigma limit (suc n) c) (asks_sort_any sigma limit (suc n) c)

    bind_good : (g : Context) (a : Lp) → IsGoodContext g → IsGood (depth g) a → IsGoodContext (Context.bind (depth g) a g)
    bind_good g a ok h = (refl, h, ok)

    -- the inferred type of a part
    pub infer_good : (more : Context → Lp → Lp → Found (Unit {0})) → IsGoodMore more → (g : Context) (us : List Lp) (t : Lp) → IsGoodContext g → AreVariables us →
        IsScoped (depth g) 0 (instance_at 0 us t) → IsNamed names t → Bound (IsGoodClass (depth g)) (infer sigma limit more g us t)
    infer_good more m g us Lp.sort ok v s q = tt
    infer_good more m g us (Lp.const name) ok v s q =
        let f : FoundGood 0 (type_of_constant sigma name) = declared name q in
        or_unbound_good (depth g) (type_of_constant sigma name) (f.0, f.1, good_more 0 (depth g) f.0 (omega arith) f.2)
    infer_good more m g us (Lp.free n) ok v s q = leaf_good g (Lp.free n) ok tt (subst (λ u. IsScoped (depth g) 0 u) (instance_free 0 us n) s)
    infer_good more m g us (Lp.index i) ok v s q = leaf_good g (instance_at 0 us (Lp.index i)) ok (instance_leaf 0 us i v) s
    infer_good more m g us (Lp.app f a) ok v s q =
        let r : IsScoped (depth g) 0 (Lp.app (instance_at 0 us f) (instance_at 0 us a)) = subst (λ u. IsScoped (depth g) 0 u) (instance_app 0 us f a) s in
        app_good more m g (instance_at 0 us a) (infer sigma limit more g us f) (infer sigma limit more g us a) ok
        (right_of r, named_instance names 0 us a (variables_named us v) q.1)
        (infer_good more m g us f ok v (left_of r) q.0) (infer_good more m g us a ok v (right_of r) q.1)
    infer_good more m g us (Lp.abs a t) ok v s q =
        let A : Lp = instance_at 0 us a in
        let r : IsScoped (depth g) 0 (Lp.abs A (instance_at 1 us t)) = subst (λ u. IsScoped (depth g) 0 u) (instance_abs 0 us a t) s in
        let h : IsGood (depth g) A = (abs_domain r, named_instance names 0 us a (variables_named us v) q.0) in
        abs_good (depth g) A (infer sigma limit more g us a) (infer sigma limit more (Context.bind (depth g) A g) (Lp.free (depth g) ∷ us) t) h
        (infer_good more m g us a ok v (abs_domain r) q.0)
        (infer_good more m (Context.bind (depth g) A g) (Lp.free (depth g) ∷ us) t (bind_good g A ok h) ((depth g, refl), v) (abs_body r) q.1)
    infer_good more m g us (Lp.prod a t) ok v s q =
        let A : Lp = instance_at 0 us a in
        let r : IsScoped (depth g) 0 (Lp.prod A (instance_at 1 us t)) = subst (λ u. IsScoped (depth g) 0 u) (instance_prod 0 us a t) s in
        let h : IsGood (depth g) A = (prod_domain r, named_instance names 0 us a (variables_named us v) q.0) in
        prod_good (depth g) (infer sigma limit more g us a) (infer sigma limit more (Context.bind (depth g) A g) (Lp.free (depth g) ∷ us) t)
        (infer_good more m g us a ok v (prod_domain r) q.0)
        (infer_good more m (Context.bind (depth g) A g) (Lp.free (depth g) ∷ us) t (bind_good g A ok h) ((depth g, refl), v) (prod_body r) q.1)

    more_good : (chain : ℕ) → IsGoodMore (more_types sigma limit chain)
    more_good zero g t u ok p = tt
    more_good (suc chain) g t u ok p =
        bound_then (IsGoodClass (depth g)) Any (infer sigma limit (more_types sigma limit chain) g [] u) (λ c. Found.gives tt)
        (infer_good (more_types sigma limit chain) (more_good chain) g [] u ok tt p.0 p.1) (λ c q. tt)

    pub type_of_good : (g : Context) (us : List Lp) (t : Lp) → IsGoodContext g → AreVariables us → IsScoped (depth g) 0 (instance_at 0 us t) → IsNamed names t →
        Bound (IsGoodClass (depth g)) (type_of sigma limit g us t)
    type_of_good g us t ok v s q = infer_good (more_types sigma limit 64) (more_good 64) g us t ok v s q

-- The remaining rules for quantifiers and equality.
use Rattle.std.proofs.Common.{ℕ, suc, ◌≡◌, ◌≤◌, List, sym, subst, arith}
use Rattle.lp_terms.specs.Term.{Lp, opened, open_at, closed, IsClosed, IsClosedAt, IsFresh}
use Rattle.lp_terms.specs.Term as lp
use Rattle.lp_terms.specs.Signature.{Entry, Extends, SignatureHasNoFree}
use Rattle.lp_terms.specs.Reduction.{Reduces, Converts}
use Rattle.lp_terms.specs.Reduction as red
use Rattle.lp_terms.specs.Typing.{Context, Binds, Class, Has}
use Rattle.lp_terms.specs.Typing as ty
use Rattle.lp_signature.specs.Prelude.{prop, prf, types, term, falsity, not_of, eq_of, symbols, prelude}
use Rattle.lp_signature.specs.Eliminations.{exists_inner, exists_right}
use Rattle.lp_signature.specs.ProofTerms.{bind, nn, forall_term, reflexive, not_forall_term, not_exists_term, is_equal_to, equals, sym_term, trans_first_term, trans_second_term}
use Rattle.lp_terms.proofs.Terms.{open_closed, close_fresh, at_same}
use Rattle.lp_terms.proofs.Substitution.{weaken_bind, weaken_under, one, converts_sym, convert_argument, convert_domain}
use Rattle.lp_terms.proofs.Binders.{typed_closed, typed_fresh, new_not_bound, abstraction_by}
use Rattle.lp_signature.proofs.Logic as logic
use Rattle.lp_signature.proofs.Logic.{extends_append, stable}
use Rattle.lp_signature.proofs.Rules as rule
use Rattle.lp_signature.proofs.Rules.{IsAbove, above_bind}

predicate_closed : (d : ℕ) (f : Lp) → IsFresh d f → closed d (prf (Lp.app f (Lp.free d))) ≡ prf (Lp.app f (Lp.index 0))
predicate_closed d f ff = simp (close_fresh 0 ff, at_same d)

module _ (sigma : List Entry) (holds : Extends prelude sigma) (z : SignatureHasNoFree sigma) where
  abbrev sh : Extends symbols sigma
  sh = rule.symbols_hold sigma holds z

  -- a quantifier's negation: dom is the type of the variable, proofs of p convert to the product over it, and q is the body at d
  pub not_all_typed : {g : Context} {dom f p q h r : Lp} (d : ℕ) → IsAbove d g → Has sigma g dom (Class.of Lp.sort) → Has sigma g f (Class.of (Lp.prod dom prop)) →
      Has sigma g p (Class.of prop) → Converts sigma (prf p) (Lp.prod dom (prf (Lp.app f (Lp.index 0)))) →
      Has sigma (Context.bind d dom g) q (Class.of prop) → Converts sigma (Lp.app f (Lp.free d)) q → Has sigma g h (Class.of (prf (not_of p))) →
      Has sigma (Context.bind (suc d) (prf (not_of q)) (Context.bind d dom g)) r (Class.of (prf falsity)) →
      Has sigma g (not_forall_term d h dom q r) (Class.of (prf falsity))
  not_all_typed {g} {dom} {f} {p} {q} {h} {r} d ab hdom hf hp e hq eq hh hr =
      let c : Context = Context.bind d dom g in
      let at_d : Has sigma c (Lp.app f (Lp.free d)) (Class.of prop) = ty.Has.application (weaken_bind d _ hf) (ty.Has.variable ty.Binds.here) in
      let inner : Has sigma c (nn (suc d) q r) (Class.of (prf (Lp.app f (Lp.free d)))) =
      ty.Has.conversion (rule.nn_typed sigma holds z (suc d) (above_bind d ab hdom) hq hr) (convert_argument _ (converts_sym eq)) (logic.prf_type sigma sh at_d) ty.IsSort.is_type in
      let fresh : IsFresh d f = typed_fresh d (new_not_bound d g (ab d (omega arith))) hf in
      let outer : Has sigma g (bind d dom (nn (suc d) q r)) (Class.of (Lp.prod dom (prf (Lp.app f (Lp.index 0))))) =
      subst (λ w. Has sigma g (bind d dom (nn (suc d) q r)) (Class.of (Lp.prod dom w))) (predicate_closed d f fresh)
      (abstraction_by d z (ab d (omega arith)) hdom (logic.prf_type sigma sh at_d) ty.IsSort.is_type inner) in
      rule.apply sigma holds z (rule.prf_falsity sigma holds z g) (rule.use_not sigma holds z hp hh)
      (ty.Has.conversion outer (converts_sym e) (logic.prf_type sigma sh hp) ty.IsSort.is_type)

  -- a proof of an existential statement, as a function of what follows from an instance
  instance_of : {g : Context} {dom f body u w : Lp} → Has sigma g dom (Class.of Lp.sort) → Has sigma g f (Class.of (Lp.prod dom prop)) →
      ((p : Lp) → Converts sigma (exists_inner dom f p) (Lp.prod dom (Lp.prod (prf body) (prf p)))) →
      (bound : ℕ) → ((n : ℕ) → bound ≤ n → Has sigma (Context.bind n dom g) (opened body (Lp.free n)) (Class.of prop)) → IsClosedAt 1 body →
      Has sigma g u (Class.of dom) → Has sigma g w (Class.of (prf (opened body u))) →
      Has sigma g (Lp.abs prop (Lp.abs (Lp.prod dom (Lp.prod (prf body) (prf (Lp.index 2)))) (Lp.app (Lp.app (Lp.index 0) u) w))) (Class.of (exists_right dom f))
  instance_of {g} {dom} {f} {body} {u} {w} ha hf conv bound hn cb hu hw =
      ty.Has.abstraction 0 (λ n le.
      let c : Context = Context.bind n prop g in
      let vp : Has sigma c (Lp.free n) (Class.of prop) = ty.Has.variable ty.Binds.here in
      let v : Has sigma c (prf (Lp.free n)) (Class.of Lp.sort) = logic.prf_type sigma sh vp in
      let from : Lp = Lp.prod dom (Lp.prod (prf body) (prf (Lp.free n))) in
      let ha1 : Has sigma c dom (Class.of Lp.sort) = weaken_bind n prop ha in
      let hfrom : Has sigma c from (Class.of Lp.sort) = ty.Has.product bound ha1
      (λ m le2. rule.arrow sigma holds z (logic.prf_type sigma sh (weaken_under n prop (hn m le2))) (weaken_bind m dom v)) ty.IsSort.is_type in
      let e : (m : ℕ) → open_at 1 (Lp.free m) body ≡ body = λ m. open_closed 1 (Lp.free m) cb (omega arith) in
      simp (stable (typed_closed ha), stable (typed_closed hf), stable (typed_closed hu), stable (typed_closed hw), e)
      (ty.Has.conversion
      (rule.lam_all sigma holds z {t = Lp.app (Lp.app (Lp.index 0) u) w} hfrom v (λ m. simp (stable (typed_closed hu), stable (typed_closed hw))
      (rule.apply sigma holds z (weaken_bind m from v) (ty.Has.application (ty.Has.variable ty.Binds.here) (weaken_bind m from (weaken_bind n prop hu))) (weaken_bind m from (weaken_bind n prop hw)))))
      (convert_domain (prf (Lp.free n)) (converts_sym (conv (Lp.free n))))
      (rule.arrow sigma holds z (logic.exists_inner_type sigma sh ha1 (weaken_bind n prop hf) vp) v) ty.IsSort.is_type))
      (logic.exists_right_type sigma sh ha hf) ty.IsSort.is_type

  -- dom is the domain, p the statement, f the predicate, body and q its body as written, with an index and at u
  pub not_exists_typed : {g : Context} {dom f p body u q h r : Lp} (d : ℕ) → IsAbove d g → Has sigma g dom (Class.of Lp.sort) → Has sigma g f (Class.of (Lp.prod dom prop)) →
      Has sigma g p (Class.of prop) → Converts sigma (prf p) (exists_right dom f) →
      ((p : Lp) → Converts sigma (exists_inner dom f p) (Lp.prod dom (Lp.prod (prf body) (prf p)))) →
      (bound : ℕ) → ((n : ℕ) → bound ≤ n → Has sigma (Context.bind n dom g) (opened body (Lp.free n)) (Class.of prop)) → IsClosedAt 1 body →
      Has sigma g u (Class.of dom) → Has sigma g (opened body u) (Class.of prop) → Has sigma g q (Class.of prop) → Converts sigma q (opened body u) →
      Has sigma g h (Class.of (prf (not_of p))) →
      Has sigma (Context.bind d (prf (not_of q)) g) r (Class.of (prf falsity)) →
      Has sigma g (not_exists_term d h dom body u q r) (Class.of (prf falsity))
  not_exists_typed {g} {dom} {f} {p} {body} {u} {q} {h} d ab ha hf ex right conv bound hn cb hu hb hq e hh r =
      let b : Lp = prf q in
      let used : Has sigma (Context.bind d b g) h (Class.of (Lp.prod (prf p) (prf falsity))) = weaken_bind d b (rule.use_not sigma holds z ex hh) in
      let var : Has sigma (Context.bind d b g) (Lp.free d) (Class.of (prf (opened body u))) =
      ty.Has.conversion (ty.Has.variable ty.Binds.here) (convert_argument _ e) (weaken_bind d b (logic.prf_type sigma sh hb)) ty.IsSort.is_type in
      let made : Has sigma (Context.bind d b g) _ (Class.of (prf p)) =
      ty.Has.conversion (instance_of {w = Lp.free d} (weaken_bind d b ha) (weaken_bind d b hf) conv bound (λ n le. weaken_under d b (hn n le)) cb (weaken_bind d b hu) var)
      (converts_sym right) (weaken_bind d b (logic.prf_type sigma sh ex)) ty.IsSort.is_type in
      rule.apply sigma holds z (rule.prf_falsity sigma holds z g) (rule.lam_false sigma holds z d ab (rule.not_type sigma holds z hq) r)
      (rule.make_not sigma holds z hq (rule.lam_false sigma holds z d ab hq (rule.apply sigma holds z (rule.prf_falsity sigma holds z _) used made)))

  -- equality: from the predicate at s to the predicate at t
  use_eq : {g : Context} {a s t h q : Lp} → Has sigma g a (Class.of types) → Has sigma g s (Class.of (term a)) → Has sigma g t (Class.of (term a)) → Has sigma g q (Class.of (Lp.prod (term a) prop)) →
      Has sigma g h (Class.of (prf (eq_of a s t))) → Has sigma g (Lp.app h q) (Class.of (Lp.prod (prf (Lp.app q s)) (prf (Lp.app q t))))
  use_eq {g} {a} {s} {t} {h} {q} ha hs ht hq hh =
      simp (stable (typed_closed hs), stable (typed_closed ht)) at (ty.Has.application
      (ty.Has.conversion hh (rule.prf_eq sigma holds z (typed_closed ha) (typed_closed hs) (typed_closed ht)) (logic.eq_right_type sigma sh ha hs ht) ty.IsSort.is_type) hq)

  pub replace : {g : Context} {a s t h body x : Lp} → Has sigma g a (Class.of types) → Has sigma g s (Class.of (term a)) → Has sigma g t (Class.of (term a)) →
      Has sigma g (Lp.abs (term a) body) (Class.of (Lp.prod (term a) prop)) → Has sigma g (opened body s) (Class.of prop) → Has sigma g (opened body t) (Class.of prop) →
      Has sigma g h (Class.of (prf (eq_of a s t))) → Has sigma g x (Class.of (prf (opened body s))) → Has sigma g (Lp.app (Lp.app h (Lp.abs (term a) body)) x) (Class.of (prf (opened body t)))
  replace {g} {a} {s} {t} {h} {body} {x} ha hs ht hq p1 p2 hh hx =
      let q : Lp = Lp.abs (term a) body in
      let at_s : Has sigma g (prf (Lp.app q s)) (Class.of Lp.sort) = logic.prf_type sigma sh (ty.Has.application hq hs) in
      let at_t : Has sigma g (prf (Lp.app q t)) (Class.of Lp.sort) = logic.prf_type sigma sh (ty.Has.application hq ht) in
      ty.Has.conversion
      (rule.apply sigma holds z at_t (use_eq ha hs ht hq hh) (ty.Has.conversion hx (convert_argument _ (converts_sym (one (red.Reduces.beta (typed_closed hs))))) at_s ty.IsSort.is_type))
      (convert_argument _ (one (red.Reduces.beta (typed_closed ht)))) (logic.prf_type sigma sh p2) ty.IsSort.is_type

  is_equal_to_typed : {g : Context} {a s : Lp} → Has sigma g a (Class.of types) → Has sigma g s (Class.of (term a)) → Has sigma g (is_equal_to a s) (Class.of (Lp.prod (term a) prop))
  is_equal_to_typed {g} {a} {s} ha hs =
      rule.lam_all sigma holds z (logic.term_type sigma sh ha) (logic.const_prop sigma sh g) (λ n. simp (stable (typed_closed ha), stable (typed_closed hs))
      (logic.eq_type sigma sh (weaken_bind n (term a) ha) (ty.Has.variable ty.Binds.here) (weaken_bind n (term a) hs)))

  equals_typed : {g : Context} {a s : Lp} → Has sigma g a (Class.of types) → Has sigma g s (Class.of (term a)) → Has sigma g (equals a s) (Class.of (Lp.prod (term a) prop))
  equals_typed {g} {a} {s} ha hs =
      rule.lam_all sigma holds z (logic.term_type sigma sh ha) (logic.const_prop sigma sh g) (λ n. simp (stable (typed_closed ha), stable (typed_closed hs))
      (logic.eq_type sigma sh (weaken_bind n (term a) ha) (weaken_bind n (term a) hs) (ty.Has.variable ty.Binds.here)))

  open_is_equal_to : {a s : Lp} → IsClosed a → IsClosed s → (u : Lp) → opened (eq_of a (Lp.index 0) s) u ≡ eq_of a u s
  open_is_equal_to ca cs u = simp (stable ca, stable cs)

  open_equals : {a s : Lp} → IsClosed a → IsClosed s → (u : Lp) → opened (eq_of a s (Lp.index 0)) u ≡ eq_of a s u
  open_equals ca cs u = simp (stable ca, stable cs)

  -- s = t turns round
  turned : {g : Context} {a s t h : Lp} → Has sigma g a (Class.of types) → Has sigma g s (Class.of (term a)) → Has sigma g t (Class.of (term a)) → Has sigma g h (Class.of (prf (eq_of a s t))) →
      Has sigma g (Lp.app (Lp.app h (is_equal_to a s)) (reflexive a s)) (Class.of (prf (eq_of a t s)))
  turned {g} {a} {s} {t} {h} ha hs ht hh =
      let e : (u : Lp) → opened (eq_of a (Lp.index 0) s) u ≡ eq_of a u s = open_is_equal_to (typed_closed ha) (typed_closed hs) in
      subst (λ w. Has sigma g (Lp.app (Lp.app h (is_equal_to a s)) (reflexive a s)) (Class.of (prf w))) (e t)
      (replace ha hs ht (is_equal_to_typed ha hs)
      (subst (λ w. Has sigma g w (Class.of prop)) (sym (e s)) (logic.eq_type sigma sh ha hs hs))
      (subst (λ w. Has sigma g w (Class.of prop)) (sym (e t)) (logic.eq_type sigma sh ha ht hs)) hh
      (subst (λ w. Has sigma g (reflexive a s) (Class.of (prf w))) (sym (e s)) (rule.reflexive_typed sigma holds z ha hs)))

  -- from u = s and s = t, u = t
  followed : {g : Context} {a s t u h x : Lp} → Has sigma g a (Class.of types) → Has sigma g s (Class.of (term a)) → Has sigma g t (Class.of (term a)) → Has sigma g u (Class.of (term a)) →
      Has sigma g h (Class.of (prf (eq_of a s t))) → Has sigma g x (Class.of (prf (eq_of a u s))) → Has sigma g (Lp.app (Lp.app h (equals a u)) x) (Class.of (prf (eq_of a u t)))
  followed {g} {a} {s} {t} {u} {h} {x} ha hs ht hu hh hx =
      let e : (v : Lp) → opened (eq_of a u (Lp.index 0)) v ≡ eq_of a u v = open_equals (typed_closed ha) (typed_closed hu) in
      subst (λ w. Has sigma g (Lp.app (Lp.app h (equals a u)) x) (Class.of (prf w))) (e t)
      (replace ha hs ht (equals_typed ha hu)
      (subst (λ w. Has sigma g w (Class.of prop)) (sym (e s)) (logic.eq_type sigma sh ha hu hs))
      (subst (λ w. Has sigma g w (Class.of prop)) (sym (e t)) (logic.eq_type sigma sh ha hu ht)) hh
      (subst (λ w. Has sigma g x (Class.of (prf w))) (sym (e s)) hx))

  pub sym_typed : {g : Context} {a s t h k : Lp} → Has sigma g a (Class.of types) → Has sigma g s (Class.of (term a)) → Has sigma g t (Class.of (term a)) →
      Has sigma g h (Class.of (prf (eq_of a s t))) → Has sigma g k (Class.of (prf (not_of (eq_of a t s)))) → Has sigma g (sym_term h k a s) (Class.of (prf falsity))
  sym_typed ha hs ht hh hk = rule.apply sigma holds z (rule.prf_falsity sigma holds z _) (rule.use_not sigma holds z (logic.eq_type sigma sh ha ht hs) hk) (turned ha hs ht hh)

  pub trans_first_typed : {g : Context} {a s t u v h k r q : Lp} (d : ℕ) → IsAbove d g → Has sigma g a (Class.of types) →
      Has sigma g s (Class.of (term a)) → Has sigma g t (Class.of (term a)) → Has sigma g u (Class.of (term a)) → Has sigma g v (Class.of (term a)) →
      Has sigma g h (Class.of (prf (eq_of a s t))) → Has sigma g k (Class.of (prf (not_of (eq_of a u v)))) →
      Has sigma (Context.bind d (prf (not_of (eq_of a u s))) g) r (Class.of (prf falsity)) → Has sigma (Context.bind d (prf (not_of (eq_of a t v))) g) q (Class.of (prf falsity)) →
      Has sigma g (trans_first_term d h k a s t u v r q) (Class.of (prf falsity))
  trans_first_typed d ab ha hs ht hu hv hh hk r q =
      rule.apply sigma holds z (rule.prf_falsity sigma holds z _) (rule.use_not sigma holds z (logic.eq_type sigma sh ha hu hv) hk)
      (followed ha ht hv hu (rule.nn_typed sigma holds z d ab (logic.eq_type sigma sh ha ht hv) q)
      (followed ha hs ht hu hh (rule.nn_typed sigma holds z d ab (logic.eq_type sigma sh ha hu hs) r)))

  pub trans_second_typed : {g : Context} {a s t u v h k r q : Lp} (d : ℕ) → IsAbove d g → Has sigma g a (Class.of types) →
      Has sigma g s (Class.of (term a)) → Has sigma g t (Class.of (term a)) → Has sigma g u (Class.of (term a)) → Has sigma g v (Class.of (term a)) →
      Has sigma g h (Class.of (prf (eq_of a s t))) → Has sigma g k (Class.of (prf (not_of (eq_of a u v)))) →
      Has sigma (Context.bind d (prf (not_of (eq_of a u t))) g) r (Class.of (prf falsity)) → Has sigma (Context.bind d (prf (not_of (eq_of a s v))) g) q (Class.of (prf falsity)) →
      Has sigma g (trans_second_term d h k a s t u v r q) (Class.of (prf falsity))
  trans_second_typed d ab ha hs ht hu hv hh hk r q =
      rule.apply sigma holds z (rule.prf_falsity sigma holds z _) (rule.use_not sigma holds z (logic.eq_type sigma sh ha hu hv) hk)
      (followed ha hs hv hu (rule.nn_typed sigma holds z d ab (logic.eq_type sigma sh ha hs hv) q)
      (followed ha ht hs hu (turned ha hs ht hh) (rule.nn_typed sigma holds z d ab (logic.eq_type sigma sh ha hu ht) r)))

  pub inner_body : {dom f body : Lp} → IsClosed f → ((n : ℕ) → Reduces sigma (Lp.app f (Lp.free n)) (opened body (Lp.free n))) → (p : Lp) →
      Converts sigma (exists_inner dom f p) (Lp.prod dom (Lp.prod (prf body) (prf p)))
  inner_body {dom} {f} {body} cf reduced p =
      one (red.Reduces.in_prod_codomain {t = Lp.prod (prf (Lp.app f (Lp.index 0))) (prf p)} {u = Lp.prod (prf body) (prf p)} 0
      (λ m le2. simp (stable cf) (red.Reduces.in_prod_domain (red.Reduces.in_argument (reduced m)))))

  -- a universal statement, dom being the type of the variable and q the predicate at u
  pub all_typed : {g : Context} {dom f p u q h r : Lp} (d : ℕ) → IsAbove d g → Has sigma g f (Class.of (Lp.prod dom prop)) →
      Converts sigma (prf p) (Lp.prod dom (prf (Lp.app f (Lp.index 0)))) → Has sigma g (Lp.prod dom (prf (Lp.app f (Lp.index 0)))) (Class.of Lp.sort) →
      Has sigma g u (Class.of dom) → Has sigma g q (Class.of prop) → Converts sigma (Lp.app f u) q → Has sigma g h (Class.of (prf p)) →
      Has sigma (Context.bind d (prf q) g) r (Class.of (prf falsity)) → Has sigma g (forall_term d h u q r) (Class.of (prf falsity))
  all_typed {g} {dom} {f} {p} {u} {q} {h} d ab hf e right hu hq eq hh r =
      let used : Has sigma g h (Class.of (Lp.prod dom (prf (Lp.app f (Lp.index 0))))) = ty.Has.conversion hh e right ty.IsSort.is_type in
      let applied : Has sigma g (Lp.app h u) (Class.of (prf (Lp.app f u))) =
      subst (λ w. Has sigma g (Lp.app h u) (Class.of (prf (Lp.app w u)))) (stable (typed_closed hf) 0 u) (ty.Has.application used hu) in
      rule.apply sigma holds z (rule.prf_falsity sigma holds z g) (rule.lam_false sigma holds z d ab hq r)
      (ty.Has.conversion applied (convert_argument _ eq) (logic.prf_type sigma sh hq) ty.IsSort.is_type)

  -- one argument replaced: q is the predicate's body
  pub step_typed : {g : Context} {a s t body h r : Lp} (d : ℕ) → IsAbove d g → Has sigma g a (Class.of types) → Has sigma g s (Class.of (term a)) → Has sigma g t (Class.of (term a)) →
      (P : Lp → Lp) → ((u : Lp) → opened body u ≡ P u) → ((n : ℕ) → Has sigma (Context.bind n (term a) g) (P (Lp.free n)) (Class.of prop)) →
      Has sigma g (P s) (Class.of prop) → Has sigma g (P t) (Class.of prop) →
      Has sigma (Context.bind d (prf (not_of (eq_of a s t))) g) r (Class.of (prf falsity)) → Has sigma g h (Class.of (prf (P s))) →
      Has sigma g (Lp.app (Lp.app (nn d (eq_of a s t) r) (Lp.abs (term a) body)) h) (Class.of (prf (P t)))
  step_typed {g} {a} {s} {t} {body} {h} {r} d ab ha hs ht P e hP p1 p2 hr hh =
      subst (λ w. Has sigma g (Lp.app (Lp.app (nn d (eq_of a s t) r) (Lp.abs (term a) body)) h) (Class.of (prf w))) (e t)
      (replace ha hs ht
      (rule.lam_all sigma holds z {t = body} (logic.term_type sigma sh ha) (logic.const_prop sigma sh g)
      (λ n. subst (λ w. Has sigma (Context.bind n (term a) g) w (Class.of prop)) (sym (e (Lp.free n))) (hP n)))
      (subst (λ w. Has sigma g w (Class.of prop)) (sym (e s)) p1) (subst (λ w. Has sigma g w (Class.of prop)) (sym (e t)) p2)
      (rule.nn_typed sigma holds z d ab (logic.eq_type sigma sh ha hs ht) hr)
      (subst (λ w. Has sigma g h (Class.of (prf w))) (sym (e s)) hh))

-- conversion of bodies by single steps that hold whatever closed term the variable stands for
pub data ConvertsUnder (sigma : List Entry) : Lp → Lp → Type 0 where
  same : {t : Lp} → ConvertsUnder sigma t t
  forth : {t u v : Lp} → ((w : Lp) → IsClosed w → Reduces sigma (opened t w) (opened u w)) → ConvertsUnder sigma u v → ConvertsUnder sigma t v
  back : {t u v : Lp} → ((w : Lp) → IsClosed w → Reduces sigma (opened u w) (opened t w)) → ConvertsUnder sigma u v → ConvertsUnder sigma t v

pub under_at : {sigma : List Entry} {t u : Lp} (w : Lp) → IsClosed w → ConvertsUnder sigma t u → Converts sigma (opened t w) (opened u w)
under_at w cw ConvertsUnder.same = red.Converts.same
under_at w cw (ConvertsUnder.forth r c) = red.Converts.forth (r w cw) (under_at w cw c)
under_at w cw (ConvertsUnder.back r c) = red.Converts.back (r w cw) (under_at w cw c)

pub under_product : {sigma : List Entry} {t u : Lp} (a p : Lp) → ConvertsUnder sigma t u → Converts sigma (Lp.prod a (Lp.prod (prf t) p)) (Lp.prod a (Lp.prod (prf u) p))
under_product a p ConvertsUnder.same = red.Converts.same
under_product a p (ConvertsUnder.forth r c) = red.Converts.forth (red.Reduces.in_prod_codomain 0 (λ n le. red.Reduces.in_prod_domain (red.Reduces.in_argument (r (Lp.free n) lp.IsClosedAt.free)))) (under_product a p c)
under_product a p (ConvertsUnder.back r c) = red.Converts.back (red.Reduces.in_prod_codomain 0 (λ n le. red.Reduces.in_prod_domain (red.Reduces.in_argument (r (Lp.free n) lp.IsClosedAt.free)))) (under_product a p c)

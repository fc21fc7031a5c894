-- Each rule's proof term is typed where its children's are.
use Rattle.std.proofs.Common.{ℕ, suc, ◌≡◌, ◌≤◌, List, [], ◌∷◌, ◌++◌, refl, sym, subst, arith}
use Rattle.lp_terms.specs.Term.{Lp, opened, closed, close_at, IsClosed, IsFresh}
use Rattle.lp_terms.specs.Signature.{Entry, Holds, Extends, SignatureHasNoFree}
use Rattle.lp_terms.specs.Signature as sig
use Rattle.lp_terms.specs.Reduction.{Reduces, Converts}
use Rattle.lp_terms.specs.Reduction as red
use Rattle.lp_terms.specs.Typing.{Context, Binds, IsNew, IsUnbound, Class, Has}
use Rattle.lp_terms.specs.Typing as ty
use Rattle.lp_signature.specs.Prelude.{prop, prf, types, term, truth, falsity, not_of, and_of, or_of, imp_of, iff_of, forall_of, exists_of, forall_type_of, exists_type_of, eq_of, symbols, rules, nnpp_entry, exists_type_entry, exists_type_rule, prelude}
use Rattle.lp_signature.specs.Eliminations.{false_right, and_right, or_right, forall_right, exists_inner, exists_right, eq_right}
use Rattle.lp_signature.specs.ProofTerms.{bind, nn, not_true_term, axiom_term, not_not_term, and_term, in_left, in_right, not_or_term, not_imp_term, or_term, not_and_term, imp_term, iff_term, not_iff_term, exists_term, reflexive, refl_term}
use Rattle.lp_terms.proofs.Terms.{close_fresh, at_same}
use Rattle.lp_terms.proofs.Substitution.{weaken_bind, one, converts_sym, convert_argument, convert_domain}
use Rattle.lp_terms.proofs.Binders.{typed_closed, typed_fresh, new_not_bound, abstraction_by, arrow_type, arrow_apply, lambda}
use Rattle.lp_signature.proofs.Logic as logic
use Rattle.lp_signature.proofs.Logic.{extends_append, stable}

-- nothing in the context has a number from d on
abbrev pub IsAbove : ℕ → Context → Type 0
IsAbove d g = (n : ℕ) → d ≤ n → IsNew n g

pub above_bind : {sigma : List Entry} {g : Context} {a : Lp} {c : Class} (d : ℕ) → IsAbove d g → Has sigma g a c → IsAbove (suc d) (Context.bind d a g)
above_bind {g = g} d h p n le = (omega arith, typed_fresh n (new_not_bound n g (h n (omega arith))) p, h n (omega arith))

-- closing over d turns a product over the free variable d into the right side of a rule
and_right_closed : (d : ℕ) (p q : Lp) → IsFresh d p → IsFresh d q →
    Lp.prod prop (closed d (Lp.prod (Lp.prod (prf p) (Lp.prod (prf q) (prf (Lp.free d)))) (prf (Lp.free d)))) ≡ and_right p q
and_right_closed d p q fp fq = simp (close_unused fp, close_unused fq, at_same d)
  where
    close_unused : {t : Lp} → IsFresh d t → (k : ℕ) → close_at k d t ≡ t
    close_unused f k = close_fresh k f

exists_inner_closed : (d : ℕ) (dom f : Lp) → IsFresh d f →
    Lp.prod dom (closed d (Lp.prod (prf (Lp.app f (Lp.free d))) (prf falsity))) ≡ exists_inner dom f falsity
exists_inner_closed d dom f ff = simp (close_fresh 0 ff, at_same d)

module _ (sigma : List Entry) (holds : Extends prelude sigma) (z : SignatureHasNoFree sigma) where
  pub symbols_hold : Extends symbols sigma
  symbols_hold e i = holds e (extends_append symbols _ e i)

  behind : {e : Entry} (xs : List Entry) {ys : List Entry} → Holds ys e → Holds (xs ++ ys) e
  behind [] h = h
  behind (x ∷ xs) h = sig.Holds.later (behind xs h)

  pub rules_hold : Extends rules sigma
  rules_hold e i = holds e (behind symbols (extends_append rules _ e i))

  pub nnpp_holds : Holds sigma nnpp_entry
  nnpp_holds = holds _ (behind symbols (behind rules sig.Holds.first))

  pub exists_type_holds : Holds sigma exists_type_entry
  exists_type_holds = holds _ (behind symbols (behind rules (sig.Holds.later sig.Holds.first)))

  exists_type_rule_holds : Holds sigma exists_type_rule
  exists_type_rule_holds = holds _ (behind symbols (behind rules (sig.Holds.later (sig.Holds.later sig.Holds.first))))

  -- what proofs of each connective convert to
  pub prf_true : Converts sigma (prf truth) (Lp.prod (prf falsity) (prf falsity))
  prf_true = one (red.Reduces.by_rule [] (rules_hold _ sig.Holds.first) refl tt)

  pub prf_false : Converts sigma (prf falsity) false_right
  prf_false = one (red.Reduces.by_rule [] (rules_hold _ (sig.Holds.later sig.Holds.first)) refl tt)

  pub prf_not : {p : Lp} → IsClosed p → Converts sigma (prf (not_of p)) (Lp.prod (prf p) (prf falsity))
  prf_not {p} cp = one (red.Reduces.by_rule (p ∷ []) (rules_hold _ (sig.Holds.later (sig.Holds.later sig.Holds.first))) refl (cp, tt))

  pub prf_and : {p q : Lp} → IsClosed p → IsClosed q → Converts sigma (prf (and_of p q)) (and_right p q)
  prf_and {p} {q} cp cq = one (simp (stable cp) at (red.Reduces.by_rule (q ∷ p ∷ []) (rules_hold _ (sig.Holds.later (sig.Holds.later (sig.Holds.later sig.Holds.first)))) refl (cq, (cp, tt))))

  pub prf_or : {p q : Lp} → IsClosed p → IsClosed q → Converts sigma (prf (or_of p q)) (or_right p q)
  prf_or {p} {q} cp cq = one (simp (stable cp) at (red.Reduces.by_rule (q ∷ p ∷ []) (rules_hold _ (sig.Holds.later (sig.Holds.later (sig.Holds.later (sig.Holds.later sig.Holds.first))))) refl (cq, (cp, tt))))

  pub prf_imp : {p q : Lp} → IsClosed p → IsClosed q → Converts sigma (prf (imp_of p q)) (Lp.prod (prf p) (prf q))
  prf_imp {p} {q} cp cq = one (simp (stable cp) at (red.Reduces.by_rule (q ∷ p ∷ []) (rules_hold _ (sig.Holds.later (sig.Holds.later (sig.Holds.later (sig.Holds.later (sig.Holds.later sig.Holds.first)))))) refl (cq, (cp, tt))))

  pub prf_iff : {p q : Lp} → IsClosed p → IsClosed q → Converts sigma (prf (iff_of p q)) (prf (and_of (imp_of p q) (imp_of q p)))
  prf_iff {p} {q} cp cq = one (simp (stable cp) at (red.Reduces.by_rule (q ∷ p ∷ []) (rules_hold _ (sig.Holds.later (sig.Holds.later (sig.Holds.later (sig.Holds.later (sig.Holds.later (sig.Holds.later sig.Holds.first))))))) refl (cq, (cp, tt))))

  pub prf_forall : {a f : Lp} → IsClosed a → IsClosed f → Converts sigma (prf (forall_of a f)) (forall_right (term a) f)
  prf_forall {a} {f} ca cf = one (simp (stable ca) at (red.Reduces.by_rule (f ∷ a ∷ []) (rules_hold _ (sig.Holds.later (sig.Holds.later (sig.Holds.later (sig.Holds.later (sig.Holds.later (sig.Holds.later (sig.Holds.later sig.Holds.first)))))))) refl (cf, (ca, tt))))

  pub prf_exists : {a f : Lp} → IsClosed a → IsClosed f → Converts sigma (prf (exists_of a f)) (exists_right (term a) f)
  prf_exists {a} {f} ca cf = one (simp (stable ca) at (red.Reduces.by_rule (f ∷ a ∷ []) (rules_hold _ (sig.Holds.later (sig.Holds.later (sig.Holds.later (sig.Holds.later (sig.Holds.later (sig.Holds.later (sig.Holds.later (sig.Holds.later sig.Holds.first))))))))) refl (cf, (ca, tt))))

  pub prf_forall_type : {f : Lp} → IsClosed f → Converts sigma (prf (forall_type_of f)) (forall_right types f)
  prf_forall_type {f} cf = one (red.Reduces.by_rule (f ∷ []) (rules_hold _ (sig.Holds.later (sig.Holds.later (sig.Holds.later (sig.Holds.later (sig.Holds.later (sig.Holds.later (sig.Holds.later (sig.Holds.later (sig.Holds.later sig.Holds.first)))))))))) refl (cf, tt))

  pub prf_exists_type : {f : Lp} → IsClosed f → Converts sigma (prf (exists_type_of f)) (exists_right types f)
  prf_exists_type {f} cf = one (red.Reduces.by_rule (f ∷ []) exists_type_rule_holds refl (cf, tt))

  pub prf_eq : {a s t : Lp} → IsClosed a → IsClosed s → IsClosed t → Converts sigma (prf (eq_of a s t)) (eq_right a s t)
  prf_eq {a} {s} {t} ca cs ct = one (simp (stable ca, stable cs) at (red.Reduces.by_rule (t ∷ s ∷ a ∷ []) (rules_hold _ (sig.Holds.later (sig.Holds.later (sig.Holds.later (sig.Holds.later (sig.Holds.later (sig.Holds.later (sig.Holds.later (sig.Holds.later (sig.Holds.later (sig.Holds.later sig.Holds.first))))))))))) refl (ct, (cs, (ca, tt)))))

  -- a hypothesis used at what it converts to, and back
  pub prf_type : {g : Context} {p : Lp} → Has sigma g p (Class.of prop) → Has sigma g (prf p) (Class.of Lp.sort)
  prf_type p = logic.prf_type sigma symbols_hold p

  pub prf_falsity : (g : Context) → Has sigma g (prf falsity) (Class.of Lp.sort)
  prf_falsity g = prf_type (logic.const_false sigma symbols_hold g)

  pub arrow : {g : Context} {p q : Lp} → Has sigma g p (Class.of Lp.sort) → Has sigma g q (Class.of Lp.sort) → Has sigma g (Lp.prod p q) (Class.of Lp.sort)
  arrow p q = arrow_type p q ty.IsSort.is_type

  pub not_type : {g : Context} {p : Lp} → Has sigma g p (Class.of prop) → Has sigma g (not_of p) (Class.of prop)
  not_type p = logic.not_type sigma symbols_hold p

  pub use_not : {g : Context} {p h : Lp} → Has sigma g p (Class.of prop) → Has sigma g h (Class.of (prf (not_of p))) → Has sigma g h (Class.of (Lp.prod (prf p) (prf falsity)))
  use_not hp h = ty.Has.conversion h (prf_not (typed_closed hp)) (arrow (prf_type hp) (prf_falsity _)) ty.IsSort.is_type

  pub make_not : {g : Context} {p h : Lp} → Has sigma g p (Class.of prop) → Has sigma g h (Class.of (Lp.prod (prf p) (prf falsity))) → Has sigma g h (Class.of (prf (not_of p)))
  make_not hp h = ty.Has.conversion h (converts_sym (prf_not (typed_closed hp))) (prf_type (not_type hp)) ty.IsSort.is_type

  pub use_and : {g : Context} {p q h : Lp} → Has sigma g p (Class.of prop) → Has sigma g q (Class.of prop) → Has sigma g h (Class.of (prf (and_of p q))) → Has sigma g h (Class.of (and_right p q))
  use_and hp hq h = ty.Has.conversion h (prf_and (typed_closed hp) (typed_closed hq)) (logic.and_right_type sigma symbols_hold hp hq) ty.IsSort.is_type

  pub make_and : {g : Context} {p q h : Lp} → Has sigma g p (Class.of prop) → Has sigma g q (Class.of prop) → Has sigma g h (Class.of (and_right p q)) → Has sigma g h (Class.of (prf (and_of p q)))
  make_and hp hq h = ty.Has.conversion h (converts_sym (prf_and (typed_closed hp) (typed_closed hq))) (prf_type (logic.and_type sigma symbols_hold hp hq)) ty.IsSort.is_type

  pub use_or : {g : Context} {p q h : Lp} → Has sigma g p (Class.of prop) → Has sigma g q (Class.of prop) → Has sigma g h (Class.of (prf (or_of p q))) → Has sigma g h (Class.of (or_right p q))
  use_or hp hq h = ty.Has.conversion h (prf_or (typed_closed hp) (typed_closed hq)) (logic.or_right_type sigma symbols_hold hp hq) ty.IsSort.is_type

  pub make_or : {g : Context} {p q h : Lp} → Has sigma g p (Class.of prop) → Has sigma g q (Class.of prop) → Has sigma g h (Class.of (or_right p q)) → Has sigma g h (Class.of (prf (or_of p q)))
  make_or hp hq h = ty.Has.conversion h (converts_sym (prf_or (typed_closed hp) (typed_closed hq))) (prf_type (logic.or_type sigma symbols_hold hp hq)) ty.IsSort.is_type

  pub use_imp : {g : Context} {p q h : Lp} → Has sigma g p (Class.of prop) → Has sigma g q (Class.of prop) → Has sigma g h (Class.of (prf (imp_of p q))) → Has sigma g h (Class.of (Lp.prod (prf p) (prf q)))
  use_imp hp hq h = ty.Has.conversion h (prf_imp (typed_closed hp) (typed_closed hq)) (arrow (prf_type hp) (prf_type hq)) ty.IsSort.is_type

  pub make_imp : {g : Context} {p q h : Lp} → Has sigma g p (Class.of prop) → Has sigma g q (Class.of prop) → Has sigma g h (Class.of (Lp.prod (prf p) (prf q))) → Has sigma g h (Class.of (prf (imp_of p q)))
  make_imp hp hq h = ty.Has.conversion h (converts_sym (prf_imp (typed_closed hp) (typed_closed hq))) (prf_type (logic.imp_type sigma symbols_hold hp hq)) ty.IsSort.is_type

  pub use_iff : {g : Context} {p q h : Lp} → Has sigma g p (Class.of prop) → Has sigma g q (Class.of prop) → Has sigma g h (Class.of (prf (iff_of p q))) → Has sigma g h (Class.of (prf (and_of (imp_of p q) (imp_of q p))))
  use_iff hp hq h = ty.Has.conversion h (prf_iff (typed_closed hp) (typed_closed hq))
      (prf_type (logic.and_type sigma symbols_hold (logic.imp_type sigma symbols_hold hp hq) (logic.imp_type sigma symbols_hold hq hp))) ty.IsSort.is_type

  pub make_iff : {g : Context} {p q h : Lp} → Has sigma g p (Class.of prop) → Has sigma g q (Class.of prop) → Has sigma g h (Class.of (prf (and_of (imp_of p q) (imp_of q p)))) → Has sigma g h (Class.of (prf (iff_of p q)))
  make_iff hp hq h = ty.Has.conversion h (converts_sym (prf_iff (typed_closed hp) (typed_closed hq))) (prf_type (logic.iff_type sigma symbols_hold hp hq)) ty.IsSort.is_type

  -- an abstraction over the next number
  pub lam : {g : Context} {a b t : Lp} (d : ℕ) → IsAbove d g → Has sigma g a (Class.of Lp.sort) → Has sigma g b (Class.of Lp.sort) →
      Has sigma (Context.bind d a g) t (Class.of b) → Has sigma g (bind d a t) (Class.of (Lp.prod a b))
  lam d ab p q r = lambda d z (ab d (omega arith)) p q ty.IsSort.is_type r

  -- into a contradiction
  pub lam_false : {g : Context} {p t : Lp} (d : ℕ) → IsAbove d g → Has sigma g p (Class.of prop) →
      Has sigma (Context.bind d (prf p) g) t (Class.of (prf falsity)) → Has sigma g (bind d (prf p) t) (Class.of (Lp.prod (prf p) (prf falsity)))
  lam_false d ab p r = lam d ab (prf_type p) (prf_falsity _) r

  pub apply : {g : Context} {a b f u : Lp} → Has sigma g b (Class.of Lp.sort) → Has sigma g f (Class.of (Lp.prod a b)) → Has sigma g u (Class.of a) → Has sigma g (Lp.app f u) (Class.of b)
  apply hb hf hu = arrow_apply hf (typed_closed hb) hu

  pub nn_typed : {g : Context} {p r : Lp} (d : ℕ) → IsAbove d g → Has sigma g p (Class.of prop) →
      Has sigma (Context.bind d (prf (not_of p)) g) r (Class.of (prf falsity)) → Has sigma g (nn d p r) (Class.of (prf p))
  nn_typed d ab p r = apply (prf_type p) (ty.Has.application (ty.Has.constant (sig.Declares.declared nnpp_holds)) p) (make_not (not_type p) (lam_false d ab (not_type p) r))

  -- the rules
  pub not_true_typed : {g : Context} {h : Lp} → Has sigma g h (Class.of (prf (not_of truth))) → Has sigma g (not_true_term h) (Class.of (prf falsity))
  not_true_typed {g} h =
      let f : Has sigma g (prf falsity) (Class.of Lp.sort) = prf_falsity g in
      let i : Has sigma g (Lp.abs (prf falsity) (Lp.index 0)) (Class.of (Lp.prod (prf falsity) (prf falsity))) =
      ty.Has.abstraction 0 (λ n le. ty.Has.variable ty.Binds.here) (arrow f f) ty.IsSort.is_type in
      apply f (use_not (logic.const_true sigma symbols_hold g) h) (ty.Has.conversion i (converts_sym prf_true) (prf_type (logic.const_true sigma symbols_hold g)) ty.IsSort.is_type)

  pub axiom_typed : {g : Context} {p h k : Lp} → Has sigma g p (Class.of prop) → Has sigma g h (Class.of (prf p)) → Has sigma g k (Class.of (prf (not_of p))) →
      Has sigma g (axiom_term h k) (Class.of (prf falsity))
  axiom_typed p h k = apply (prf_falsity _) (use_not p k) h

  pub not_not_typed : {g : Context} {p h r : Lp} (d : ℕ) → IsAbove d g → Has sigma g p (Class.of prop) → Has sigma g h (Class.of (prf (not_of (not_of p)))) →
      Has sigma (Context.bind d (prf p) g) r (Class.of (prf falsity)) → Has sigma g (not_not_term d h p r) (Class.of (prf falsity))
  not_not_typed d ab p h r = apply (prf_falsity _) (use_not (not_type p) h) (make_not p (lam_false d ab p r))

  pub and_typed : {g : Context} {p q h r : Lp} (d : ℕ) → IsAbove d g → Has sigma g p (Class.of prop) → Has sigma g q (Class.of prop) → Has sigma g h (Class.of (prf (and_of p q))) →
      Has sigma (Context.bind (suc d) (prf q) (Context.bind d (prf p) g)) r (Class.of (prf falsity)) → Has sigma g (and_term d h p q r) (Class.of (prf falsity))
  and_typed {g} {p} {q} d ab hp hq h r =
      let f : Has sigma g (prf falsity) (Class.of Lp.sort) = prf_falsity g in
      apply f (simp (stable (typed_closed hp), stable (typed_closed hq)) at (ty.Has.application (use_and hp hq h) (logic.const_false sigma symbols_hold g)))
      (lam d ab (prf_type hp) (arrow (prf_type hq) f) (lam_false (suc d) (above_bind d ab (prf_type hp)) (weaken_bind d (prf p) hq) r))

  pub or_typed : {g : Context} {p q h r s : Lp} (d : ℕ) → IsAbove d g → Has sigma g p (Class.of prop) → Has sigma g q (Class.of prop) → Has sigma g h (Class.of (prf (or_of p q))) →
      Has sigma (Context.bind d (prf p) g) r (Class.of (prf falsity)) → Has sigma (Context.bind d (prf q) g) s (Class.of (prf falsity)) →
      Has sigma g (or_term d h p q r s) (Class.of (prf falsity))
  or_typed {g} {p} {q} d ab hp hq h r s =
      let f : Has sigma g (prf falsity) (Class.of Lp.sort) = prf_falsity g in
      apply f (apply (arrow (arrow (prf_type hq) f) f)
      (simp (stable (typed_closed hp), stable (typed_closed hq)) at (ty.Has.application (use_or hp hq h) (logic.const_false sigma symbols_hold g)))
      (lam_false d ab hp r)) (lam_false d ab hq s)

  pub not_imp_typed : {g : Context} {p q h r : Lp} (d : ℕ) → IsAbove d g → Has sigma g p (Class.of prop) → Has sigma g q (Class.of prop) → Has sigma g h (Class.of (prf (not_of (imp_of p q)))) →
      Has sigma (Context.bind (suc d) (prf (not_of q)) (Context.bind d (prf p) g)) r (Class.of (prf falsity)) → Has sigma g (not_imp_term d h p q r) (Class.of (prf falsity))
  not_imp_typed {g} {p} {q} d ab hp hq h r =
      apply (prf_falsity g) (use_not (logic.imp_type sigma symbols_hold hp hq) h)
      (make_imp hp hq (lam d ab (prf_type hp) (prf_type hq) (nn_typed (suc d) (above_bind d ab (prf_type hp)) (weaken_bind d (prf p) hq) r)))

  pub imp_typed : {g : Context} {p q h r s : Lp} (d : ℕ) → IsAbove d g → Has sigma g p (Class.of prop) → Has sigma g q (Class.of prop) → Has sigma g h (Class.of (prf (imp_of p q))) →
      Has sigma (Context.bind d (prf (not_of p)) g) r (Class.of (prf falsity)) → Has sigma (Context.bind d (prf q) g) s (Class.of (prf falsity)) →
      Has sigma g (imp_term d h p q r s) (Class.of (prf falsity))
  imp_typed {g} d ab hp hq h r s = apply (prf_falsity g) (lam_false d ab hq s) (apply (prf_type hq) (use_imp hp hq h) (nn_typed d ab hp r))

  -- an abstraction whose body is typed for every number
  pub lam_all : {g : Context} {a b t : Lp} → Has sigma g a (Class.of Lp.sort) → Has sigma g b (Class.of Lp.sort) →
      ((n : ℕ) → Has sigma (Context.bind n a g) (opened t (Lp.free n)) (Class.of b)) → Has sigma g (Lp.abs a t) (Class.of (Lp.prod a b))
  lam_all {g} {a} {b} {t} p q f =
      ty.Has.abstraction 0 (λ n le. subst (λ v. Has sigma (Context.bind n a g) (opened t (Lp.free n)) (Class.of v)) (sym (stable (typed_closed q) 0 (Lp.free n))) (f n)) (arrow p q) ty.IsSort.is_type

  pub in_left_typed : {g : Context} {p q h : Lp} → Has sigma g p (Class.of prop) → Has sigma g q (Class.of prop) → Has sigma g h (Class.of (prf p)) →
      Has sigma g (in_left p q h) (Class.of (or_right p q))
  in_left_typed {g} {p} {q} {h} hp hq hh =
      ty.Has.abstraction 0 (λ n le.
      let c : Context = Context.bind n prop g in
      let v : Has sigma c (prf (Lp.free n)) (Class.of Lp.sort) = prf_type (ty.Has.variable ty.Binds.here) in
      let a : Has sigma c (Lp.prod (prf p) (prf (Lp.free n))) (Class.of Lp.sort) = arrow (prf_type (weaken_bind n prop hp)) v in
      let b : Has sigma c (Lp.prod (prf q) (prf (Lp.free n))) (Class.of Lp.sort) = arrow (prf_type (weaken_bind n prop hq)) v in
      simp (stable (typed_closed hp), stable (typed_closed hq), stable (typed_closed hh)) (lam_all a (arrow b v) (λ m.
      simp (stable (typed_closed hq), stable (typed_closed hh)) (lam_all (weaken_bind m _ b) (weaken_bind m _ v) (λ k.
      simp (stable (typed_closed hh)) (apply (weaken_bind k _ (weaken_bind m _ v)) (ty.Has.variable (ty.Binds.outside ty.Binds.here)) (weaken_bind k _ (weaken_bind m _ (weaken_bind n _ hh)))))))))
      (logic.or_right_type sigma symbols_hold hp hq) ty.IsSort.is_type

  pub in_right_typed : {g : Context} {p q h : Lp} → Has sigma g p (Class.of prop) → Has sigma g q (Class.of prop) → Has sigma g h (Class.of (prf q)) →
      Has sigma g (in_right p q h) (Class.of (or_right p q))
  in_right_typed {g} {p} {q} {h} hp hq hh =
      ty.Has.abstraction 0 (λ n le.
      let c : Context = Context.bind n prop g in
      let v : Has sigma c (prf (Lp.free n)) (Class.of Lp.sort) = prf_type (ty.Has.variable ty.Binds.here) in
      let a : Has sigma c (Lp.prod (prf p) (prf (Lp.free n))) (Class.of Lp.sort) = arrow (prf_type (weaken_bind n prop hp)) v in
      let b : Has sigma c (Lp.prod (prf q) (prf (Lp.free n))) (Class.of Lp.sort) = arrow (prf_type (weaken_bind n prop hq)) v in
      simp (stable (typed_closed hp), stable (typed_closed hq), stable (typed_closed hh)) (lam_all a (arrow b v) (λ m.
      simp (stable (typed_closed hq), stable (typed_closed hh)) (lam_all (weaken_bind m _ b) (weaken_bind m _ v) (λ k.
      simp (stable (typed_closed hh)) (apply (weaken_bind k _ (weaken_bind m _ v)) (ty.Has.variable ty.Binds.here) (weaken_bind k _ (weaken_bind m _ (weaken_bind n _ hh)))))))))
      (logic.or_right_type sigma symbols_hold hp hq) ty.IsSort.is_type

  pub not_or_typed : {g : Context} {p q h r : Lp} (d : ℕ) → IsAbove d g → Has sigma g p (Class.of prop) → Has sigma g q (Class.of prop) → Has sigma g h (Class.of (prf (not_of (or_of p q)))) →
      Has sigma (Context.bind (suc d) (prf (not_of q)) (Context.bind d (prf (not_of p)) g)) r (Class.of (prf falsity)) → Has sigma g (not_or_term d h p q r) (Class.of (prf falsity))
  not_or_typed {g} {p} {q} {h} d ab hp hq hh r =
      let f : Has sigma g (prf falsity) (Class.of Lp.sort) = prf_falsity g in
      let np : Has sigma g (not_of p) (Class.of prop) = not_type hp in
      let nq : Has sigma g (not_of q) (Class.of prop) = not_type hq in
      let used : Has sigma g h (Class.of (Lp.prod (prf (or_of p q)) (prf falsity))) = use_not (logic.or_type sigma symbols_hold hp hq) hh in
      apply f (apply (arrow (prf_type nq) f)
      (lam d ab (prf_type np) (arrow (prf_type nq) f) (lam_false (suc d) (above_bind d ab (prf_type np)) (weaken_bind d _ nq) r))
      (make_not hp (lam_false d ab hp (apply (prf_falsity _) (weaken_bind d _ used)
      (make_or (weaken_bind d _ hp) (weaken_bind d _ hq) (in_left_typed (weaken_bind d _ hp) (weaken_bind d _ hq) (ty.Has.variable ty.Binds.here)))))))
      (make_not hq (lam_false d ab hq (apply (prf_falsity _) (weaken_bind d _ used)
      (make_or (weaken_bind d _ hp) (weaken_bind d _ hq) (in_right_typed (weaken_bind d _ hp) (weaken_bind d _ hq) (ty.Has.variable ty.Binds.here))))))

  -- a conjunction by what follows from its parts, for every proposition d
  pub make_and_by : {g : Context} {p q t : Lp} (d : ℕ) → IsAbove d g → Has sigma g p (Class.of prop) → Has sigma g q (Class.of prop) →
      Has sigma (Context.bind (suc d) (Lp.prod (prf p) (Lp.prod (prf q) (prf (Lp.free d)))) (Context.bind d prop g)) t (Class.of (prf (Lp.free d))) →
      Has sigma g (bind d prop (bind (suc d) (Lp.prod (prf p) (Lp.prod (prf q) (prf (Lp.free d)))) t)) (Class.of (prf (and_of p q)))
  make_and_by {g} {p} {q} {t} d ab hp hq ht =
      let c : Context = Context.bind d prop g in
      let hprop : Has sigma g prop (Class.of Lp.sort) = logic.const_prop sigma symbols_hold g in
      let v : Has sigma c (prf (Lp.free d)) (Class.of Lp.sort) = prf_type (ty.Has.variable ty.Binds.here) in
      let a : Has sigma c (Lp.prod (prf p) (Lp.prod (prf q) (prf (Lp.free d)))) (Class.of Lp.sort) =
      arrow (prf_type (weaken_bind d prop hp)) (arrow (prf_type (weaken_bind d prop hq)) v) in
      let fr : IsUnbound d g = new_not_bound d g (ab d (omega arith)) in
      make_and hp hq (subst (λ w. Has sigma g (bind d prop (bind (suc d) (Lp.prod (prf p) (Lp.prod (prf q) (prf (Lp.free d)))) t)) (Class.of w))
      (and_right_closed d p q (typed_fresh d fr hp) (typed_fresh d fr hq))
      (abstraction_by d z (ab d (omega arith)) hprop (arrow a v) ty.IsSort.is_type (lam (suc d) (above_bind d ab hprop) a v ht)))

  pub not_and_typed : {g : Context} {p q h r s : Lp} (d : ℕ) → IsAbove d g → Has sigma g p (Class.of prop) → Has sigma g q (Class.of prop) → Has sigma g h (Class.of (prf (not_of (and_of p q)))) →
      Has sigma (Context.bind (suc (suc d)) (prf (not_of p)) (Context.bind (suc d) (Lp.prod (prf p) (Lp.prod (prf q) (prf (Lp.free d)))) (Context.bind d prop g))) r (Class.of (prf falsity)) →
      Has sigma (Context.bind (suc (suc d)) (prf (not_of q)) (Context.bind (suc d) (Lp.prod (prf p) (Lp.prod (prf q) (prf (Lp.free d)))) (Context.bind d prop g))) s (Class.of (prf falsity)) →
      Has sigma g (not_and_term d h p q r s) (Class.of (prf falsity))
  not_and_typed {g} {p} {q} d ab hp hq h r s =
      let hprop : Has sigma g prop (Class.of Lp.sort) = logic.const_prop sigma symbols_hold g in
      let c : Context = Context.bind d prop g in
      let v : Has sigma c (prf (Lp.free d)) (Class.of Lp.sort) = prf_type (ty.Has.variable ty.Binds.here) in
      let p1 : Has sigma c p (Class.of prop) = weaken_bind d prop hp in
      let q1 : Has sigma c q (Class.of prop) = weaken_bind d prop hq in
      let at : Lp = Lp.prod (prf p) (Lp.prod (prf q) (prf (Lp.free d))) in
      let a : Has sigma c at (Class.of Lp.sort) = arrow (prf_type p1) (arrow (prf_type q1) v) in
      let c2 : Context = Context.bind (suc d) at c in
      let ab2 : IsAbove (suc (suc d)) c2 = above_bind (suc d) (above_bind d ab hprop) a in
      let v2 : Has sigma c2 (prf (Lp.free d)) (Class.of Lp.sort) = weaken_bind (suc d) at v in
      let p2 : Has sigma c2 p (Class.of prop) = weaken_bind (suc d) at p1 in
      let q2 : Has sigma c2 q (Class.of prop) = weaken_bind (suc d) at q1 in
      apply (prf_falsity g) (use_not (logic.and_type sigma symbols_hold hp hq) h)
      (make_and_by d ab hp hq (apply v2 (apply (arrow (prf_type q2) v2) (ty.Has.variable ty.Binds.here) (nn_typed (suc (suc d)) ab2 p2 r)) (nn_typed (suc (suc d)) ab2 q2 s)))

  pub iff_typed : {g : Context} {p q h r s : Lp} (d : ℕ) → IsAbove d g → Has sigma g p (Class.of prop) → Has sigma g q (Class.of prop) → Has sigma g h (Class.of (prf (iff_of p q))) →
      Has sigma (Context.bind (suc (suc (suc d))) (prf q) (Context.bind (suc (suc d)) (prf p) (Context.bind (suc d) (prf (imp_of q p)) (Context.bind d (prf (imp_of p q)) g)))) r (Class.of (prf falsity)) →
      Has sigma (Context.bind (suc (suc (suc d))) (prf (not_of q)) (Context.bind (suc (suc d)) (prf (not_of p)) (Context.bind (suc d) (prf (imp_of q p)) (Context.bind d (prf (imp_of p q)) g)))) s (Class.of (prf falsity)) →
      Has sigma g (iff_term d h p q r s) (Class.of (prf falsity))
  iff_typed {g} {p} {q} d ab hp hq h r s =
      let pq : Has sigma g (imp_of p q) (Class.of prop) = logic.imp_type sigma symbols_hold hp hq in
      let qp : Has sigma g (imp_of q p) (Class.of prop) = logic.imp_type sigma symbols_hold hq hp in
      let c1 : Context = Context.bind d (prf (imp_of p q)) g in
      let ab1 : IsAbove (suc d) c1 = above_bind d ab (prf_type pq) in
      let c2 : Context = Context.bind (suc d) (prf (imp_of q p)) c1 in
      let ab2 : IsAbove (suc (suc d)) c2 = above_bind (suc d) ab1 (prf_type (weaken_bind d _ qp)) in
      let p2 : Has sigma c2 p (Class.of prop) = weaken_bind (suc d) _ (weaken_bind d _ hp) in
      let q2 : Has sigma c2 q (Class.of prop) = weaken_bind (suc d) _ (weaken_bind d _ hq) in
      let cu : Context = Context.bind (suc (suc d)) (prf (not_of p)) c2 in
      let abu : IsAbove (suc (suc (suc d))) cu = above_bind (suc (suc d)) ab2 (prf_type (not_type p2)) in
      let pu : Has sigma cu p (Class.of prop) = weaken_bind (suc (suc d)) _ p2 in
      let qu : Has sigma cu q (Class.of prop) = weaken_bind (suc (suc d)) _ q2 in
      let cb : Context = Context.bind (suc (suc (suc d))) (prf q) cu in
      let pb : Has sigma cb p (Class.of prop) = weaken_bind (suc (suc (suc d))) _ pu in
      let qb : Has sigma cb q (Class.of prop) = weaken_bind (suc (suc (suc d))) _ qu in
      let ca : Context = Context.bind (suc (suc d)) (prf p) c2 in
      let aba : IsAbove (suc (suc (suc d))) ca = above_bind (suc (suc d)) ab2 (prf_type p2) in
      let pa : Has sigma ca p (Class.of prop) = weaken_bind (suc (suc d)) _ p2 in
      let qa : Has sigma ca q (Class.of prop) = weaken_bind (suc (suc d)) _ q2 in
      let f : Has sigma g (prf falsity) (Class.of Lp.sort) = prf_falsity g in
      apply f (simp (stable (typed_closed hp), stable (typed_closed hq)) at (ty.Has.application (use_and pq qp (use_iff hp hq h)) (logic.const_false sigma symbols_hold g)))
      (lam d ab (prf_type pq) (arrow (prf_type qp) f) (lam_false (suc d) ab1 (weaken_bind d _ qp)
      (apply (prf_falsity c2)
      (lam_false (suc (suc d)) ab2 (not_type p2)
      (apply (prf_falsity cu) (lam_false (suc (suc (suc d))) abu (not_type qu) s)
      (make_not qu (lam_false (suc (suc (suc d))) abu qu
      (apply (prf_falsity cb) (use_not pb (ty.Has.variable (ty.Binds.outside ty.Binds.here)))
      (apply (prf_type pb) (use_imp qb pb (ty.Has.variable (ty.Binds.outside (ty.Binds.outside ty.Binds.here)))) (ty.Has.variable ty.Binds.here)))))))
      (make_not p2 (lam_false (suc (suc d)) ab2 p2
      (apply (prf_falsity ca) (lam_false (suc (suc (suc d))) aba qa r)
      (apply (prf_type qa) (use_imp pa qa (ty.Has.variable (ty.Binds.outside (ty.Binds.outside ty.Binds.here)))) (ty.Has.variable ty.Binds.here))))))))

  pub not_iff_typed : {g : Context} {p q h r s : Lp} (d : ℕ) → IsAbove d g → Has sigma g p (Class.of prop) → Has sigma g q (Class.of prop) → Has sigma g h (Class.of (prf (not_of (iff_of p q)))) →
      Has sigma (Context.bind (suc (suc (suc d))) (prf (not_of q)) (Context.bind (suc (suc d)) (prf p)
      (Context.bind (suc d) (Lp.prod (prf (imp_of p q)) (Lp.prod (prf (imp_of q p)) (prf (Lp.free d)))) (Context.bind d prop g)))) r (Class.of (prf falsity)) →
      Has sigma (Context.bind (suc (suc (suc d))) (prf (not_of p)) (Context.bind (suc (suc d)) (prf q)
      (Context.bind (suc d) (Lp.prod (prf (imp_of p q)) (Lp.prod (prf (imp_of q p)) (prf (Lp.free d)))) (Context.bind d prop g)))) s (Class.of (prf falsity)) →
      Has sigma g (not_iff_term d h p q r s) (Class.of (prf falsity))
  not_iff_typed {g} {p} {q} d ab hp hq h r s =
      let pq : Has sigma g (imp_of p q) (Class.of prop) = logic.imp_type sigma symbols_hold hp hq in
      let qp : Has sigma g (imp_of q p) (Class.of prop) = logic.imp_type sigma symbols_hold hq hp in
      let hprop : Has sigma g prop (Class.of Lp.sort) = logic.const_prop sigma symbols_hold g in
      let c : Context = Context.bind d prop g in
      let v : Has sigma c (prf (Lp.free d)) (Class.of Lp.sort) = prf_type (ty.Has.variable ty.Binds.here) in
      let t : Lp = Lp.prod (prf (imp_of p q)) (Lp.prod (prf (imp_of q p)) (prf (Lp.free d))) in
      let a : Has sigma c t (Class.of Lp.sort) = arrow (prf_type (weaken_bind d prop pq)) (arrow (prf_type (weaken_bind d prop qp)) v) in
      let c2 : Context = Context.bind (suc d) t c in
      let ab2 : IsAbove (suc (suc d)) c2 = above_bind (suc d) (above_bind d ab hprop) a in
      let v2 : Has sigma c2 (prf (Lp.free d)) (Class.of Lp.sort) = weaken_bind (suc d) t v in
      let p2 : Has sigma c2 p (Class.of prop) = weaken_bind (suc d) t (weaken_bind d prop hp) in
      let q2 : Has sigma c2 q (Class.of prop) = weaken_bind (suc d) t (weaken_bind d prop hq) in
      let pq2 : Has sigma c2 (imp_of p q) (Class.of prop) = weaken_bind (suc d) t (weaken_bind d prop pq) in
      let qp2 : Has sigma c2 (imp_of q p) (Class.of prop) = weaken_bind (suc d) t (weaken_bind d prop qp) in
      let iff2 : Has sigma g (prf (iff_of p q)) (Class.of Lp.sort) = prf_type (logic.iff_type sigma symbols_hold hp hq) in
      apply (prf_falsity g) (use_not (logic.iff_type sigma symbols_hold hp hq) h)
      (make_iff hp hq (make_and_by d ab pq qp
      (apply v2 (apply (arrow (prf_type qp2) v2) (ty.Has.variable ty.Binds.here)
      (make_imp p2 q2 (lam (suc (suc d)) ab2 (prf_type p2) (prf_type q2)
      (nn_typed (suc (suc (suc d))) (above_bind (suc (suc d)) ab2 (prf_type p2)) (weaken_bind (suc (suc d)) _ q2) r))))
      (make_imp q2 p2 (lam (suc (suc d)) ab2 (prf_type q2) (prf_type p2)
      (nn_typed (suc (suc (suc d))) (above_bind (suc (suc d)) ab2 (prf_type q2)) (weaken_bind (suc (suc d)) _ p2) s))))))

  use_exists : {g : Context} {dom f p h : Lp} → Has sigma g dom (Class.of Lp.sort) → Has sigma g f (Class.of (Lp.prod dom prop)) →
      Converts sigma (prf p) (exists_right dom f) → Has sigma g h (Class.of (prf p)) →
      Has sigma g (Lp.app h falsity) (Class.of (Lp.prod (exists_inner dom f falsity) (prf falsity)))
  use_exists {g} hdom hf e hh =
      simp (stable (typed_closed hdom), stable (typed_closed hf)) at (ty.Has.application
      (ty.Has.conversion hh e (logic.exists_right_type sigma symbols_hold hdom hf) ty.IsSort.is_type) (logic.const_false sigma symbols_hold g))

  -- dom is the domain, whose proofs convert as those of p; d is the variable for the parameter, and q the body at it
  pub exists_typed : {g : Context} {dom f p q h r : Lp} (d : ℕ) → IsAbove d g → Has sigma g dom (Class.of Lp.sort) → Has sigma g f (Class.of (Lp.prod dom prop)) →
      Converts sigma (prf p) (exists_right dom f) →
      Has sigma (Context.bind d dom g) q (Class.of prop) → Converts sigma (Lp.app f (Lp.free d)) q → Has sigma g h (Class.of (prf p)) →
      Has sigma (Context.bind (suc d) (prf q) (Context.bind d dom g)) r (Class.of (prf falsity)) →
      Has sigma g (exists_term d h dom q r) (Class.of (prf falsity))
  exists_typed {g} {dom} {f} {p} {q} {h} {r} d ab hdom hf e hq eq hh hr =
      let c : Context = Context.bind d dom g in
      let at_d : Has sigma c (Lp.app f (Lp.free d)) (Class.of prop) = ty.Has.application (weaken_bind d _ hf) (ty.Has.variable ty.Binds.here) in
      let inner_type : Has sigma c (Lp.prod (prf (Lp.app f (Lp.free d))) (prf falsity)) (Class.of Lp.sort) = arrow (prf_type at_d) (prf_falsity c) in
      let inner : Has sigma c (bind (suc d) (prf q) r) (Class.of (Lp.prod (prf (Lp.app f (Lp.free d))) (prf falsity))) =
      ty.Has.conversion (lam_false (suc d) (above_bind d ab hdom) hq hr) (convert_domain _ (convert_argument _ (converts_sym eq))) inner_type ty.IsSort.is_type in
      let fresh : IsFresh d f = typed_fresh d (new_not_bound d g (ab d (omega arith))) hf in
      let outer : Has sigma g (bind d dom (bind (suc d) (prf q) r)) (Class.of (exists_inner dom f falsity)) =
      subst (λ w. Has sigma g (bind d dom (bind (suc d) (prf q) r)) (Class.of w)) (exists_inner_closed d dom f fresh)
      (abstraction_by d z (ab d (omega arith)) hdom inner_type ty.IsSort.is_type inner) in
      apply (prf_falsity g) (use_exists hdom hf e hh) outer

  pub reflexive_typed : {g : Context} {a t : Lp} → Has sigma g a (Class.of types) → Has sigma g t (Class.of (term a)) → Has sigma g (reflexive a t) (Class.of (prf (eq_of a t t)))
  reflexive_typed {g} {a} {t} ha ht =
      let right : Has sigma g (reflexive a t) (Class.of (eq_right a t t)) =
      ty.Has.abstraction 0 (λ n le.
      let s : Has sigma (Context.bind n (Lp.prod (term a) prop) g) (prf (Lp.app (Lp.free n) t)) (Class.of Lp.sort) =
      prf_type (ty.Has.application (ty.Has.variable ty.Binds.here) (weaken_bind n _ ht)) in
      simp (stable (typed_closed ht)) (lam_all s s (λ m. ty.Has.variable ty.Binds.here)))
      (logic.eq_right_type sigma symbols_hold ha ht ht) ty.IsSort.is_type in
      ty.Has.conversion right (converts_sym (prf_eq (typed_closed ha) (typed_closed ht) (typed_closed ht))) (prf_type (logic.eq_type sigma symbols_hold ha ht ht)) ty.IsSort.is_type

  pub refl_typed : {g : Context} {a t h : Lp} → Has sigma g a (Class.of types) → Has sigma g t (Class.of (term a)) → Has sigma g h (Class.of (prf (not_of (eq_of a t t)))) →
      Has sigma g (refl_term h a t) (Class.of (prf falsity))
  refl_typed ha ht hh = apply (prf_falsity _) (use_not (logic.eq_type sigma symbols_hold ha ht ht) hh) (reflexive_typed ha ht)

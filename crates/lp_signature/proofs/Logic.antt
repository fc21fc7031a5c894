-- Typing of the prelude's symbols, over any signature that holds them.
use Rattle.std.proofs.Common.{ℕ, ◌≡◌, List, ◌++◌, codes, subst, arith}
use Rattle.lp_terms.specs.Term.{Lp, open_at, IsClosed}
use Rattle.lp_terms.specs.Signature.{Entry, Holds, Extends}
use Rattle.lp_terms.specs.Signature as sig
use Rattle.lp_terms.specs.Typing.{Context, Class, Has}
use Rattle.lp_terms.specs.Typing as ty
use Rattle.lp_signature.specs.Prelude.{prop, prf, types, term, any, not_of, and_of, or_of, imp_of, iff_of, forall_of, exists_of, forall_type_of, exists_type_of, eq_of, exists_type_entry, symbols, nnpp_type}
use Rattle.lp_signature.specs.Eliminations.{false_right, and_right, or_right, forall_right, exists_inner, exists_right, eq_right}
use Rattle.lp_terms.proofs.Terms.{open_closed}
use Rattle.lp_terms.proofs.Substitution.{weaken_bind}
use Rattle.lp_terms.proofs.Binders.{typed_closed, arrow_type}

pub extends_append : (xs ys : List Entry) → Extends xs (xs ++ ys)
extends_append xs ys e h = go h
  where
    go : {xs : List Entry} → Holds xs e → Holds (xs ++ ys) e
    go sig.Holds.first = sig.Holds.first
    go (sig.Holds.later i) = sig.Holds.later (go i)

-- a closed term stays as it is when it is opened
pub stable : {t : Lp} → IsClosed t → (j : ℕ) (u : Lp) → open_at j u t ≡ t
stable c j u = open_closed j u c (omega arith)

module _ (sigma : List Entry) (holds : Extends symbols sigma) where
  pub const_prop : (g : Context) → Has sigma g (Lp.const (codes "prop")) (Class.of Lp.sort)
  const_prop g = ty.Has.constant (sig.Declares.declared (holds _ sig.Holds.first))

  pub const_prf : (g : Context) → Has sigma g (Lp.const (codes "prf")) (Class.of (Lp.prod prop Lp.sort))
  const_prf g = ty.Has.constant (sig.Declares.declared (holds _ (sig.Holds.later sig.Holds.first)))

  pub const_type : (g : Context) → Has sigma g (Lp.const (codes "type")) (Class.of Lp.sort)
  const_type g = ty.Has.constant (sig.Declares.declared (holds _ (sig.Holds.later (sig.Holds.later sig.Holds.first))))

  pub const_term : (g : Context) → Has sigma g (Lp.const (codes "term")) (Class.of (Lp.prod types Lp.sort))
  const_term g = ty.Has.constant (sig.Declares.declared (holds _ (sig.Holds.later (sig.Holds.later (sig.Holds.later sig.Holds.first)))))

  pub const_iota : (g : Context) → Has sigma g (Lp.const (codes "iota")) (Class.of types)
  const_iota g = ty.Has.constant (sig.Declares.declared (holds _ (sig.Holds.later (sig.Holds.later (sig.Holds.later (sig.Holds.later sig.Holds.first))))))

  pub const_any : (g : Context) → Has sigma g (Lp.const (codes "any")) (Class.of (Lp.prod types (term (Lp.index 0))))
  const_any g = ty.Has.constant (sig.Declares.declared (holds _ (sig.Holds.later (sig.Holds.later (sig.Holds.later (sig.Holds.later (sig.Holds.later sig.Holds.first)))))))

  pub const_true : (g : Context) → Has sigma g (Lp.const (codes "true")) (Class.of prop)
  const_true g = ty.Has.constant (sig.Declares.declared (holds _ (sig.Holds.later (sig.Holds.later (sig.Holds.later (sig.Holds.later (sig.Holds.later (sig.Holds.later sig.Holds.first))))))))

  pub const_false : (g : Context) → Has sigma g (Lp.const (codes "false")) (Class.of prop)
  const_false g = ty.Has.constant (sig.Declares.declared (holds _ (sig.Holds.later (sig.Holds.later (sig.Holds.later (sig.Holds.later (sig.Holds.later (sig.Holds.later (sig.Holds.later sig.Holds.first)))))))))

  pub const_not : (g : Context) → Has sigma g (Lp.const (codes "not")) (Class.of (Lp.prod prop prop))
  const_not g = ty.Has.constant (sig.Declares.declared (holds _ (sig.Holds.later (sig.Holds.later (sig.Holds.later (sig.Holds.later (sig.Holds.later (sig.Holds.later (sig.Holds.later (sig.Holds.later sig.Holds.first))))))))))

  pub const_and : (g : Context) → Has sigma g (Lp.const (codes "and")) (Class.of (Lp.prod prop (Lp.prod prop prop)))
  const_and g = ty.Has.constant (sig.Declares.declared (holds _ (sig.Holds.later (sig.Holds.later (sig.Holds.later (sig.Holds.later (sig.Holds.later (sig.Holds.later (sig.Holds.later (sig.Holds.later (sig.Holds.later sig.Holds.first)))))))))))

  pub const_or : (g : Context) → Has sigma g (Lp.const (codes "or")) (Class.of (Lp.prod prop (Lp.prod prop prop)))
  const_or g = ty.Has.constant (sig.Declares.declared (holds _ (sig.Holds.later (sig.Holds.later (sig.Holds.later (sig.Holds.later (sig.Holds.later (sig.Holds.later (sig.Holds.later (sig.Holds.later (sig.Holds.later (sig.Holds.later sig.Holds.first))))))))))))

  pub const_imp : (g : Context) → Has sigma g (Lp.const (codes "imp")) (Class.of (Lp.prod prop (Lp.prod prop prop)))
  const_imp g = ty.Has.constant (sig.Declares.declared (holds _ (sig.Holds.later (sig.Holds.later (sig.Holds.later (sig.Holds.later (sig.Holds.later (sig.Holds.later (sig.Holds.later (sig.Holds.later (sig.Holds.later (sig.Holds.later (sig.Holds.later sig.Holds.first)))))))))))))

  pub const_iff : (g : Context) → Has sigma g (Lp.const (codes "iff")) (Class.of (Lp.prod prop (Lp.prod prop prop)))
  const_iff g = ty.Has.constant (sig.Declares.declared (holds _ (sig.Holds.later (sig.Holds.later (sig.Holds.later (sig.Holds.later (sig.Holds.later (sig.Holds.later (sig.Holds.later (sig.Holds.later (sig.Holds.later (sig.Holds.later (sig.Holds.later (sig.Holds.later sig.Holds.first))))))))))))))

  pub const_forall : (g : Context) → Has sigma g (Lp.const (codes "forall")) (Class.of (Lp.prod types (Lp.prod (Lp.prod (term (Lp.index 0)) prop) prop)))
  const_forall g = ty.Has.constant (sig.Declares.declared (holds _ (sig.Holds.later (sig.Holds.later (sig.Holds.later (sig.Holds.later (sig.Holds.later (sig.Holds.later (sig.Holds.later (sig.Holds.later (sig.Holds.later (sig.Holds.later (sig.Holds.later (sig.Holds.later (sig.Holds.later sig.Holds.first)))))))))))))))

  pub const_exists : (g : Context) → Has sigma g (Lp.const (codes "exists")) (Class.of (Lp.prod types (Lp.prod (Lp.prod (term (Lp.index 0)) prop) prop)))
  const_exists g = ty.Has.constant (sig.Declares.declared (holds _ (sig.Holds.later (sig.Holds.later (sig.Holds.later (sig.Holds.later (sig.Holds.later (sig.Holds.later (sig.Holds.later (sig.Holds.later (sig.Holds.later (sig.Holds.later (sig.Holds.later (sig.Holds.later (sig.Holds.later (sig.Holds.later sig.Holds.first))))))))))))))))

  pub const_forall_type : (g : Context) → Has sigma g (Lp.const (codes "forall_type")) (Class.of (Lp.prod (Lp.prod types prop) prop))
  const_forall_type g = ty.Has.constant (sig.Declares.declared (holds _ (sig.Holds.later (sig.Holds.later (sig.Holds.later (sig.Holds.later (sig.Holds.later (sig.Holds.later (sig.Holds.later (sig.Holds.later (sig.Holds.later (sig.Holds.later (sig.Holds.later (sig.Holds.later (sig.Holds.later (sig.Holds.later (sig.Holds.later sig.Holds.first)))))))))))))))))

  pub const_eq : (g : Context) → Has sigma g (Lp.const (codes "eq")) (Class.of (Lp.prod types (Lp.prod (term (Lp.index 0)) (Lp.prod (term (Lp.index 1)) prop))))
  const_eq g = ty.Has.constant (sig.Declares.declared (holds _ (sig.Holds.later (sig.Holds.later (sig.Holds.later (sig.Holds.later (sig.Holds.later (sig.Holds.later (sig.Holds.later (sig.Holds.later (sig.Holds.later (sig.Holds.later (sig.Holds.later (sig.Holds.later (sig.Holds.later (sig.Holds.later (sig.Holds.later (sig.Holds.later sig.Holds.first))))))))))))))))))

  pub prf_type : {g : Context} {p : Lp} → Has sigma g p (Class.of prop) → Has sigma g (prf p) (Class.of Lp.sort)
  prf_type p = ty.Has.application (const_prf _) p

  pub term_type : {g : Context} {a : Lp} → Has sigma g a (Class.of types) → Has sigma g (term a) (Class.of Lp.sort)
  term_type p = ty.Has.application (const_term _) p

  pub any_type : {g : Context} {a : Lp} → Has sigma g a (Class.of types) → Has sigma g (any a) (Class.of (term a))
  any_type p = ty.Has.application (const_any _) p

  pub not_type : {g : Context} {p : Lp} → Has sigma g p (Class.of prop) → Has sigma g (not_of p) (Class.of prop)
  not_type p = ty.Has.application (const_not _) p

  pub and_type : {g : Context} {p q : Lp} → Has sigma g p (Class.of prop) → Has sigma g q (Class.of prop) → Has sigma g (and_of p q) (Class.of prop)
  and_type p q = ty.Has.application (ty.Has.application (const_and _) p) q

  pub or_type : {g : Context} {p q : Lp} → Has sigma g p (Class.of prop) → Has sigma g q (Class.of prop) → Has sigma g (or_of p q) (Class.of prop)
  or_type p q = ty.Has.application (ty.Has.application (const_or _) p) q

  pub imp_type : {g : Context} {p q : Lp} → Has sigma g p (Class.of prop) → Has sigma g q (Class.of prop) → Has sigma g (imp_of p q) (Class.of prop)
  imp_type p q = ty.Has.application (ty.Has.application (const_imp _) p) q

  pub iff_type : {g : Context} {p q : Lp} → Has sigma g p (Class.of prop) → Has sigma g q (Class.of prop) → Has sigma g (iff_of p q) (Class.of prop)
  iff_type p q = ty.Has.application (ty.Has.application (const_iff _) p) q

  pub forall_type : {g : Context} {a f : Lp} → Has sigma g a (Class.of types) → Has sigma g f (Class.of (Lp.prod (term a) prop)) → Has sigma g (forall_of a f) (Class.of prop)
  forall_type p q = ty.Has.application (ty.Has.application (const_forall _) p) q

  pub exists_type : {g : Context} {a f : Lp} → Has sigma g a (Class.of types) → Has sigma g f (Class.of (Lp.prod (term a) prop)) → Has sigma g (exists_of a f) (Class.of prop)
  exists_type p q = ty.Has.application (ty.Has.application (const_exists _) p) q

  pub forall_type_type : {g : Context} {f : Lp} → Has sigma g f (Class.of (Lp.prod types prop)) → Has sigma g (forall_type_of f) (Class.of prop)
  forall_type_type q = ty.Has.application (const_forall_type _) q

  pub eq_type : {g : Context} {a s t : Lp} → Has sigma g a (Class.of types) → Has sigma g s (Class.of (term a)) → Has sigma g t (Class.of (term a)) → Has sigma g (eq_of a s t) (Class.of prop)
  eq_type {g} {a} {s} {t} p q r =
      ty.Has.application (subst (λ v. Has sigma g (Lp.app (Lp.app (Lp.const (codes "eq")) a) s) (Class.of (Lp.prod (term v) prop))) (stable (typed_closed p) 0 s)
      (ty.Has.application (ty.Has.application (const_eq g) p) q)) r

  -- the right sides
  pub false_right_type : (g : Context) → Has sigma g false_right (Class.of Lp.sort)
  false_right_type g = ty.Has.product 0 (const_prop g) (λ n le. prf_type (ty.Has.variable ty.Binds.here)) ty.IsSort.is_type

  pub arrow : {g : Context} {p q : Lp} → Has sigma g p (Class.of Lp.sort) → Has sigma g q (Class.of Lp.sort) → Has sigma g (Lp.prod p q) (Class.of Lp.sort)
  arrow p q = arrow_type p q ty.IsSort.is_type

  pub and_right_type : {g : Context} {p q : Lp} → Has sigma g p (Class.of prop) → Has sigma g q (Class.of prop) → Has sigma g (and_right p q) (Class.of Lp.sort)
  and_right_type {g} {p} {q} hp hq =
      ty.Has.product 0 (const_prop g) (λ n le. simp (stable (typed_closed hp), stable (typed_closed hq))
      (let v : Has sigma (Context.bind n prop g) (prf (Lp.free n)) (Class.of Lp.sort) = prf_type (ty.Has.variable ty.Binds.here) in
      arrow (arrow (prf_type (weaken_bind n prop hp)) (arrow (prf_type (weaken_bind n prop hq)) v)) v)) ty.IsSort.is_type

  pub or_right_type : {g : Context} {p q : Lp} → Has sigma g p (Class.of prop) → Has sigma g q (Class.of prop) → Has sigma g (or_right p q) (Class.of Lp.sort)
  or_right_type {g} {p} {q} hp hq =
      ty.Has.product 0 (const_prop g) (λ n le. simp (stable (typed_closed hp), stable (typed_closed hq))
      (let v : Has sigma (Context.bind n prop g) (prf (Lp.free n)) (Class.of Lp.sort) = prf_type (ty.Has.variable ty.Binds.here) in
      arrow (arrow (prf_type (weaken_bind n prop hp)) v) (arrow (arrow (prf_type (weaken_bind n prop hq)) v) v))) ty.IsSort.is_type

  -- over any domain
  pub forall_right_type : {g : Context} {dom f : Lp} → Has sigma g dom (Class.of Lp.sort) → Has sigma g f (Class.of (Lp.prod dom prop)) → Has sigma g (forall_right dom f) (Class.of Lp.sort)
  forall_right_type {g} {dom} {f} hdom hf =
      ty.Has.product 0 hdom (λ n le. simp (stable (typed_closed hf))
      (prf_type (ty.Has.application (weaken_bind n dom hf) (ty.Has.variable ty.Binds.here)))) ty.IsSort.is_type

  pub exists_inner_type : {g : Context} {dom f p : Lp} → Has sigma g dom (Class.of Lp.sort) → Has sigma g f (Class.of (Lp.prod dom prop)) → Has sigma g p (Class.of prop) →
      Has sigma g (exists_inner dom f p) (Class.of Lp.sort)
  exists_inner_type {g} {dom} {f} hdom hf hp =
      ty.Has.product 0 hdom (λ n le. simp (stable (typed_closed hf), stable (typed_closed hp))
      (arrow (prf_type (ty.Has.application (weaken_bind n dom hf) (ty.Has.variable ty.Binds.here))) (prf_type (weaken_bind n dom hp)))) ty.IsSort.is_type

  pub exists_right_type : {g : Context} {dom f : Lp} → Has sigma g dom (Class.of Lp.sort) → Has sigma g f (Class.of (Lp.prod dom prop)) → Has sigma g (exists_right dom f) (Class.of Lp.sort)
  exists_right_type {g} {dom} {f} hdom hf =
      ty.Has.product 0 (const_prop g) (λ n le. simp (stable (typed_closed hdom), stable (typed_closed hf))
      (let v : Has sigma (Context.bind n prop g) (Lp.free n) (Class.of prop) = ty.Has.variable ty.Binds.here in
      arrow (exists_inner_type (weaken_bind n prop hdom) (weaken_bind n prop hf) v) (prf_type v))) ty.IsSort.is_type

  pub eq_right_type : {g : Context} {a s t : Lp} → Has sigma g a (Class.of types) → Has sigma g s (Class.of (term a)) → Has sigma g t (Class.of (term a)) → Has sigma g (eq_right a s t) (Class.of Lp.sort)
  eq_right_type {g} {a} {s} {t} ha hs ht =
      let pt : Has sigma g (Lp.prod (term a) prop) (Class.of Lp.sort) = arrow (term_type ha) (const_prop g) in
      ty.Has.product 0 pt (λ n le. simp (stable (typed_closed hs), stable (typed_closed ht))
      (let v : Has sigma (Context.bind n (Lp.prod (term a) prop) g) (Lp.free n) (Class.of (Lp.prod (term a) prop)) = ty.Has.variable ty.Binds.here in
      arrow (prf_type (ty.Has.application v (weaken_bind n _ hs))) (prf_type (ty.Has.application v (weaken_bind n _ ht))))) ty.IsSort.is_type

  pub nnpp_type_type : (g : Context) → Has sigma g nnpp_type (Class.of Lp.sort)
  nnpp_type_type g = ty.Has.product 0 (const_prop g) (λ n le.
      let v : Has sigma (Context.bind n prop g) (Lp.free n) (Class.of prop) = ty.Has.variable ty.Binds.here in
      arrow (prf_type (not_type (not_type v))) (prf_type v)) ty.IsSort.is_type

  -- with the entry for type quantifiers of the other kind
  pub exists_type_type : {g : Context} {f : Lp} → Holds sigma exists_type_entry → Has sigma g f (Class.of (Lp.prod types prop)) → Has sigma g (exists_type_of f) (Class.of prop)
  exists_type_type h q = ty.Has.application (ty.Has.constant (sig.Declares.declared h)) q

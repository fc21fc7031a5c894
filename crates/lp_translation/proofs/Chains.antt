-- The rules for equal arguments: a proof of what is made of a symbol at some arguments becomes one at others, by replacing
-- each argument in turn.
use Rattle.std.proofs.Common.{ℕ, suc, ◌≡◌, List, [], ◌∷◌, ◌++◌, refl, sym, ap, ◌∙◌, subst, arith}
use Rattle.lp_terms.specs.Term.{Lp, IsClosed, IsClosedAt}
use Rattle.lp_terms.specs.Term as lp
use Rattle.lp_terms.specs.Reduction.{Converts}
use Rattle.lp_terms.specs.Typing.{Context, Binds, Class, Has}
use Rattle.lp_terms.specs.Typing as ty
use Rattle.lp_terms.proofs.Terms.{closed_up}
use Rattle.lp_terms.proofs.Substitution.{weaken_bind, converts_trans, convert_function, convert_argument}
use Rattle.lp_terms.proofs.Binders.{typed_closed, arrow_apply}
use Rattle.zm_logic.specs.Tree.{Tys, Terms, Form, differ}
use Rattle.zm_logic.specs.Typing.{AreTypes, HaveTypes}
use Rattle.zm_logic.specs.Calculus.{differ_each}
use Rattle.lp_signature.specs.Prelude.{prop, prf, term, falsity, not_of, eq_of}
use Rattle.lp_signature.specs.Translation.{Scope, type_of, term_of, apply_terms}
use Rattle.lp_signature.specs.Scoped.{Fits}
use Rattle.lp_signature.proofs.Logic.{stable}
use Rattle.lp_signature.proofs.SymbolTypes.{closed_arrows}
use Rattle.lp_signature.proofs.MoreRules as more_rule
use Rattle.sequent_proof.specs.Rules.{RuleName, each_alone}
use Rattle.sequent_proof.specs.Tree.{DTrees}
use Rattle.lp_translation.specs.ProofOf.{Hypotheses, bound_by, as_bound, write_spine, chain, proofs}
use Rattle.lp_translation.proofs.Writings.{Setting, type_typed, fits_weak}
use Rattle.lp_translation.proofs.Branches.{Branch}
use Rattle.lp_translation.proofs.Children.{Refutes, RefuteEach, one_more, child, type_at, term_at, add_differ}

module _ (x : Setting) where
  -- applications
  pub closed_arrows_closed : (c : Context) (s : Scope) → Fits x.sigma x.ss c s → (ts : Tys) (v : Lp) → AreTypes x.ss 0 ts
      → IsClosed v → (k : ℕ)
      → IsClosedAt k (closed_arrows x.ss s ts v)
  closed_arrows_closed c s fits Tys.none v p cv k = closed_up k cv (omega arith)
  closed_arrows_closed c s fits (Tys.more t ts) v p cv k =
      lp.IsClosedAt.prod (lp.IsClosedAt.app lp.IsClosedAt.const
      (closed_up k (typed_closed (type_typed x fits t p.0)) (omega arith)))
      (closed_arrows_closed c s fits ts v p.1 cv (suc k))

  pub spine_typed : (c : Context) (s : Scope) → Fits x.sigma x.ss c s → (us : Terms) (ts : Tys) (f v : Lp) → IsClosed v
      → AreTypes x.ss 0 ts
      → Has x.sigma c f (Class.of (closed_arrows x.ss s ts v)) → HaveTypes x.ss us ts
      → Has x.sigma c (write_spine x.ss x.write x.write_term s f us) (Class.of v)
  spine_typed c s fits Terms.none Tys.none f v cv p hf h = hf
  spine_typed c s fits Terms.none (Tys.more t ts) f v cv p hf h = absurd h
  spine_typed c s fits (Terms.more u us) Tys.none f v cv p hf h = absurd h
  spine_typed c s fits (Terms.more u us) (Tys.more t ts) f v cv p hf h =
      spine_typed c s fits us ts (Lp.app f (x.write_term s u)) v cv p.1
      (arrow_apply hf (closed_arrows_closed c s fits ts v p.1 cv 0) (x.writing.term_written c s u t fits h.0)) h.1

  pub spine_open : (c : Context) (s : Scope) → Fits x.sigma x.ss c s → (us : Terms) (ts : Tys) (f u : Lp)
      → HaveTypes x.ss us ts
      → lp.open_at 0 u (write_spine x.ss x.write x.write_term s f us) ≡ write_spine x.ss x.write x.write_term s
      (lp.open_at 0 u f) us
  spine_open c s fits Terms.none ts f u h = refl
  spine_open c s fits (Terms.more a us) Tys.none f u h = absurd h
  spine_open c s fits (Terms.more a us) (Tys.more t ts) f u h =
      spine_open c s fits us ts (Lp.app f (x.write_term s a)) u h.1
      ∙ ap (λ w. write_spine x.ss x.write x.write_term s (Lp.app (lp.open_at 0 u f) w) us)
      (stable (typed_closed (x.writing.term_written c s a t fits h.0)) 0 u)

  pub spine_same : (s : Scope) (us : Terms) (f h : Lp) → Converts x.sigma f h
      → Converts x.sigma (write_spine x.ss x.write x.write_term s f us) (apply_terms x.ss s h us)
  spine_same s Terms.none f h e = e
  spine_same s (Terms.more u us) f h e =
      spine_same s us (Lp.app f (x.write_term s u)) (Lp.app h (term_of x.ss s u))
      (converts_trans (convert_function _ e) (convert_argument _ (x.writing.term_same s u)))

  -- each of the terms is a contradiction from the inequation of two arguments, which the variable d proves
  abbrev pub Contradict : ℕ → Context → Scope → Tys → Terms → Terms → List Lp → Type 0
  Contradict d c s Tys.none us vs rs = Unit {0}
  Contradict d c s (Tys.more t ts) (Terms.more a us) (Terms.more b vs) (r ∷ rs) =
      Has x.sigma (Context.bind d (prf (not_of (eq_of (type_of x.ss s 0 t) (x.write_term s a) (x.write_term s b)))) c) r
      (Class.of (prf falsity))
      × Contradict d c s ts us vs rs
  Contradict d c s (Tys.more t ts) _ _ _ = ⊥

  module _ {gamma : List Form} {d : ℕ} {c : Context} {s : Scope} {hs : Hypotheses} (b : Branch x gamma d c s hs)
      (wrap : Lp → Lp) (opens : (u w : Lp) → lp.open_at 0 u (wrap w) ≡ wrap (lp.open_at 0 u w)) (v : Lp) (cv : IsClosed v)
      (here : (w : Lp) → Has x.sigma c w (Class.of v) → Has x.sigma c (wrap w) (Class.of prop))
      (under : (n : ℕ) (a w : Lp) → Has x.sigma (Context.bind n a c) w (Class.of v) → Has x.sigma (Context.bind n a c)
      (wrap w) (Class.of prop)) where
    pub chain_typed : (ts : Tys) (us vs : Terms) (rs : List Lp) (f h : Lp) → Has x.sigma c f
        (Class.of (closed_arrows x.ss s ts v))
        → AreTypes x.ss 0 ts → HaveTypes x.ss us ts → HaveTypes x.ss vs ts → Contradict d c s ts us vs rs
        → Has x.sigma c h (Class.of (prf (wrap (write_spine x.ss x.write x.write_term s f us))))
        → Has x.sigma c (chain x.ss x.write x.write_term d s wrap f h ts us vs rs)
        (Class.of (prf (wrap (write_spine x.ss x.write x.write_term s f vs))))
    chain_typed Tys.none Terms.none Terms.none rs f h hf p q l k hh = hh
    chain_typed Tys.none (Terms.more a us) vs rs f h hf p q l k hh = absurd q
    chain_typed Tys.none Terms.none (Terms.more e vs) rs f h hf p q l k hh = absurd l
    chain_typed (Tys.more t ts) Terms.none vs rs f h hf p q l k hh = absurd q
    chain_typed (Tys.more t ts) (Terms.more a us) Terms.none rs f h hf p q l k hh = absurd l
    chain_typed (Tys.more t ts) (Terms.more a us) (Terms.more e vs) [] f h hf p q l k hh = absurd k
    chain_typed (Tys.more t ts) (Terms.more a us) (Terms.more e vs) (r ∷ rs) f h hf p q l k hh =
        let ca : IsClosed (closed_arrows x.ss s ts v) = closed_arrows_closed c s b.fits ts v p.1 cv 0 in
        let applied : (w : Lp) → Has x.sigma c w (Class.of (term (type_of x.ss s 0 t))) → Has x.sigma c (Lp.app f w)
        (Class.of (closed_arrows x.ss s ts v)) =
        λ w hw. arrow_apply hf ca hw in
        let at : (w : Lp) → Has x.sigma c w (Class.of (term (type_of x.ss s 0 t)))
        → Has x.sigma c (wrap (write_spine x.ss x.write x.write_term s (Lp.app f w) us)) (Class.of prop) =
        λ w hw. here _ (spine_typed c s b.fits us ts (Lp.app f w) v cv p.1 (applied w hw) q.1) in
        chain_typed ts us vs rs (Lp.app f (x.write_term s e)) _ (applied _ (term_at x t b l.0)) p.1 q.1 l.1 k.1
        (more_rule.step_typed x.sigma x.holds x.unbound d b.above (type_at x t b p.0) (term_at x t b q.0)
        (term_at x t b l.0)
        (λ w. wrap (write_spine x.ss x.write x.write_term s (Lp.app f w) us))
        (λ w. opens w (write_spine x.ss x.write x.write_term s (Lp.app f (Lp.index 0)) us)
        ∙ ap wrap (spine_open c s b.fits us ts (Lp.app f (Lp.index 0)) w q.1
        ∙ ap (λ y. write_spine x.ss x.write x.write_term s (Lp.app y w) us) (stable (typed_closed hf) 0 w)))
        (λ n. under n _ _ (spine_typed (Context.bind n (term (type_of x.ss s 0 t)) c) s
        (fits_weak x n _ b.fits) us ts
        (Lp.app f (Lp.free n)) v cv p.1 (arrow_apply (weaken_bind n _ hf) ca (ty.Has.variable ty.Binds.here)) q.1))
        (at _ (term_at x t b q.0)) (at _ (term_at x t b l.0)) k.0 hh)

  -- the children of a rule for equal arguments
  pub children_contradict : (name : RuleName) → ((k : ℕ) (fs : List Form) → as_bound name k fs ≡ fs)
      → {gamma : List Form} {d : ℕ} {c : Context} {s : Scope} {hs : Hypotheses} → Branch x gamma d c s hs
      → (k : ℕ) (ts : Tys) (us vs : Terms) {upper : List (List Form)} {cs : DTrees} → RefuteEach x gamma upper cs
      → upper ≡ each_alone (differ_each ts us vs) → AreTypes x.ss 0 ts → HaveTypes x.ss us ts → HaveTypes x.ss vs ts
      → Contradict d c s ts us vs (proofs x.ss x.write x.write_term name k d s hs cs)
  children_contradict name plain b k Tys.none us vs r e p q l = tt
  children_contradict name plain b k (Tys.more t ts) Terms.none vs r e p q l = absurd q
  children_contradict name plain b k (Tys.more t ts) (Terms.more a us) Terms.none r e p q l = absurd l
  children_contradict name plain b k (Tys.more t ts) (Terms.more a us) (Terms.more v vs) RefuteEach.none e p q l =
      let y : [] ≡ (differ t a v ∷ []) ∷ each_alone (differ_each ts us vs) = e in absurd (cc)
  children_contradict name plain {gamma} {d} {c} {s} {hs} b k (Tys.more t ts) (Terms.more a us) (Terms.more v vs)
      (RefuteEach.more {fs = fs} {upper = upper} {t = tree} {ts = cs} m w r rest) e p q l =
      let y : fs ∷ upper ≡ (differ t a v ∷ []) ∷ each_alone (differ_each ts us vs) = e in
      let head : fs ≡ differ t a v ∷ [] = cc in
      let tail : upper ≡ each_alone (differ_each ts us vs) = cc in (
        child x gamma name k refl (one_more d) s hs tree (m ∙ head) (subst (λ gs. Refutes x (gs ++ gamma) tree) head r)
            (subst (λ gs. Branch x (differ t a v ∷ gamma) (suc d)
            (Context.bind d (prf (not_of (eq_of (type_of x.ss s 0 t) (x.write_term s a) (x.write_term s v)))) c) s
            (bound_by d gs hs))
            (sym (plain k (differ t a v ∷ []))) (add_differ x t a v p.0 q.0 l.0 b)),
        children_contradict name plain b (suc k) ts us vs rest tail p.1 q.1 l.1,
      )

-- How many metavariables are left: no more after a step, and one less after a binding.
use Rattle.std.proofs.Common.{◌≡◌, ◌+◌, ◌<◌, ◌≤◌, ◌==◌, ◌&&◌, ◌⊎◌, inl, inr, Bool, true, false, if◌then◌else◌, List, [], ◌∷◌, ◌++◌, length, refl, ap, sym, subst, arith}
use Rattle.std.proofs.lemmas.Bool.Decides.{eqb_tells}
use Rattle.zm_logic.specs.Tree.{Ty, Tys, Term, Terms}
use Rattle.zm_logic.specs.Same.{same_type}
use Rattle.unify.specs.Equation.{Equation}
use Rattle.unify.specs.Binding.{Binding, solved_type, solved_term}
use Rattle.unify.specs.Unification.{Binds, Splits}
use Rattle.unify.specs.Lawful.{AreLawful}
use Rattle.unify.specs.Metas.{Variable, same_variable, has_variable, distinct, type_metas, types_metas, term_metas, terms_metas, metas_under, unbound}
use Rattle.unify.proofs.Same.{Tells, tells_by, same_meta_tells}
use Rattle.unify.proofs.Measure.{Among, without, TypeIn, TypesIn, TermIn, TermsIn}
use Rattle.unify.proofs.End.{AreIn, splits_in, binds_in}
use Rattle.unify.proofs.Theorem.{among_first, among_later, type_in, term_in}

same_variable_tells : (v w : Variable) → Tells (same_variable v w) (v ≡ w)
same_variable_tells (Variable.type n) (Variable.type m) = tells_by (n == m) (ap Variable.type) (λ e. cc) (eqb_tells n m)
same_variable_tells (Variable.term n t) (Variable.term m k) =
    tells_by ((n == m) && same_type t k) (λ e. (let p : n ≡ m = cc in let q : t ≡ k = cc in cc)) (λ e. (let p : n ≡ m = cc in let q : t ≡ k = cc in cc)) (same_meta_tells n m t k)
same_variable_tells _ _ = inr (refl, λ e. cc)

has_tells : (vs : List Variable) (v : Variable) → Tells (has_variable vs v) (Among v vs)
has_tells [] v = inr (refl, λ a. a)
has_tells (w ∷ ws) v = elim (same_variable_tells v w) [
  | inl x ↦ inl (rw x.0 refl, inl x.1)
  | inr x ↦ elim (has_tells ws v) [
    | inl y ↦ inl (rw (x.0, y.0) refl, inr y.1)
    | inr y ↦ inr (rw (x.0, y.0) refl, λ a. elim a [ inl e ↦ x.1 e | inr b ↦ y.1 b ])
  ]
]

among_distinct : (vs : List Variable) (v : Variable) → Among v vs → Among v (distinct vs)
among_distinct [] v h = h
among_distinct (w ∷ ws) v h = go (λ u a. among_distinct ws u a) (has_variable ws w) (has_tells ws w)
  where
    go : ((u : Variable) → Among u ws → Among u (distinct ws)) → (b : Bool) → Tells b (Among w ws) → Among v (if b then distinct ws else w ∷ distinct ws)
    go rest true (inl x) = elim h [ inl e ↦ subst (λ u. Among u (distinct ws)) (sym e) (rest w x.1) | inr a ↦ rest v a ]
    go rest true (inr x) = cc
    go rest false t = elim h [ inl e ↦ inl e | inr a ↦ inr (rest v a) ]

-- a list that has all of them is no shorter
least : (vs ws : List Variable) → ((v : Variable) → Among v vs → Among v ws) → length (distinct vs) ≤ length ws
least [] ws h = omega arith
least (v ∷ vs) ws h = go (λ us k. least vs us k) (has_variable vs v) (has_tells vs v)
  where
    go : ((us : List Variable) → ((u : Variable) → Among u vs → Among u us) → length (distinct vs) ≤ length us)
        → (b : Bool) → Tells b (Among v vs) → length (if b then distinct vs else v ∷ distinct vs) ≤ length ws
    go rest true t = rest ws (λ u a. h u (inr a))
    go rest false (inl x) = cc
    go rest false (inr x) =
        let w = without v ws (h v (inl refl)) in
        let n = rest w.0 (λ u a. w.2 u (h u (inr a)) (λ e. x.1 (subst (λ z. Among z vs) e a))) in
        omega (arith, n, w.1)

among_cases : (v : Variable) (xs ys : List Variable) → Among v (xs ++ ys) → Among v xs ⊎ Among v ys
among_cases v [] ys h = inr h
among_cases v (x ∷ xs) ys (inl e) = inl (inl e)
among_cases v (x ∷ xs) ys (inr h) = elim (among_cases v xs ys h) [ inl a ↦ inl (inr a) | inr a ↦ inr a ]

module _ (vs : List Variable) where
  mutual
    of_type : (t : Ty) → TypeIn vs t → (v : Variable) → Among v (type_metas t) → Among v vs
    of_type (Ty.bound i) h v a = absurd a
    of_type (Ty.param n) h v a = absurd a
    of_type (Ty.meta n) h v (inl e) = subst (λ u. Among u vs) (sym e) h
    of_type (Ty.meta n) h v (inr a) = absurd a
    of_type (Ty.con c ts) h v a = of_types ts h v a

    of_types : (ts : Tys) → TypesIn vs ts → (v : Variable) → Among v (types_metas ts) → Among v vs
    of_types Tys.none h v a = absurd a
    of_types (Tys.more t ts) h v a = elim (among_cases v (type_metas t) (types_metas ts) a) [ inl b ↦ of_type t h.0 v b | inr b ↦ of_types ts h.1 v b ]

  mutual
    of_term : (t : Term) → TermIn vs t → (v : Variable) → Among v (term_metas t) → Among v vs
    of_term (Term.bound i) h v a = absurd a
    of_term (Term.eps n t) h v a = absurd a
    of_term (Term.meta n t) h v (inl e) = subst (λ u. Among u vs) (sym e) h
    of_term (Term.meta n t) h v (inr a) = absurd a
    of_term (Term.app f ts us) h v a = elim (among_cases v (types_metas ts) (terms_metas us) a) [ inl b ↦ of_types ts h.0 v b | inr b ↦ of_terms us h.1 v b ]

    of_terms : (us : Terms) → TermsIn vs us → (v : Variable) → Among v (terms_metas us) → Among v vs
    of_terms Terms.none h v a = absurd a
    of_terms (Terms.more u us) h v a = elim (among_cases v (term_metas u) (terms_metas us) a) [ inl b ↦ of_term u h.0 v b | inr b ↦ of_terms us h.1 v b ]

  module _ (bs : List Binding) where
    of_equations : (es : List Equation) → AreIn vs bs es → (v : Variable) → Among v (metas_under bs es) → Among v vs
    of_equations [] h v a = absurd a
    of_equations (Equation.of_types s t ∷ es) h v a =
        elim (among_cases v (type_metas (solved_type bs s)) (type_metas (solved_type bs t) ++ metas_under bs es) a) [
          | inl b ↦ of_type (solved_type bs s) h.0.0 v b
          | inr b ↦ elim (among_cases v (type_metas (solved_type bs t)) (metas_under bs es) b) [ inl d ↦ of_type (solved_type bs t) h.0.1 v d | inr d ↦ of_equations es h.1 v d ]
        ]
    of_equations (Equation.of_terms s t ∷ es) h v a =
        elim (among_cases v (term_metas (solved_term bs s)) (term_metas (solved_term bs t) ++ metas_under bs es) a) [
          | inl b ↦ of_term (solved_term bs s) h.0.0 v b
          | inr b ↦ elim (among_cases v (term_metas (solved_term bs t)) (metas_under bs es) b) [ inl d ↦ of_term (solved_term bs t) h.0.1 v d | inr d ↦ of_equations es h.1 v d ]
        ]

    to_equations : (es : List Equation) → ((v : Variable) → Among v (metas_under bs es) → Among v vs) → AreIn vs bs es
    to_equations [] h = tt
    to_equations (Equation.of_types s t ∷ es) h =
        let xs = type_metas (solved_type bs s) in let ys = type_metas (solved_type bs t) in let zs = metas_under bs es in (
          (type_in vs (solved_type bs s) (λ v a. h v (among_first v xs (ys ++ zs) a)), type_in vs (solved_type bs t) (λ v a. h v (among_later v xs (ys ++ zs) (among_first v ys zs a)))),
          to_equations es (λ v a. h v (among_later v xs (ys ++ zs) (among_later v ys zs a))),
        )
    to_equations (Equation.of_terms s t ∷ es) h =
        let xs = term_metas (solved_term bs s) in let ys = term_metas (solved_term bs t) in let zs = metas_under bs es in (
          (term_in vs (solved_term bs s) (λ v a. h v (among_first v xs (ys ++ zs) a)), term_in vs (solved_term bs t) (λ v a. h v (among_later v xs (ys ++ zs) (among_first v ys zs a)))),
          to_equations es (λ v a. h v (among_later v xs (ys ++ zs) (among_later v ys zs a))),
        )

-- a list that has the metavariables of all sides
in_distinct : (bs : List Binding) (es : List Equation) → AreIn (distinct (metas_under bs es)) bs es
in_distinct bs es = to_equations (distinct (metas_under bs es)) bs es (λ v a. among_distinct (metas_under bs es) v a)

unbound_least : (ws : List Variable) (bs : List Binding) (es : List Equation) → AreIn ws bs es → unbound bs es ≤ length ws
unbound_least ws bs es h = least (metas_under bs es) ws (of_equations ws bs es h)

pub fewer_dropped : (bs : List Binding) (e : Equation) (es : List Equation) → unbound bs es < unbound bs (e ∷ es) + 1
fewer_dropped bs e es =
    let n = unbound_least (distinct (metas_under bs (e ∷ es))) bs es (in_distinct bs (e ∷ es)).1 in omega (arith, n)

pub fewer_split : (bs : List Binding) → AreLawful bs → {e : Equation} {es all : List Equation} → Splits bs e es all → unbound bs all < unbound bs (e ∷ es) + 1
fewer_split bs l {e = e} {es = es} {all = all} h =
    let i = in_distinct bs (e ∷ es) in
    let n = unbound_least (distinct (metas_under bs (e ∷ es))) bs all (splits_in bs l (distinct (metas_under bs (e ∷ es))) h i.0 i.1) in omega (arith, n)

pub fewer_bound : (bs : List Binding) → AreLawful bs → {e : Equation} {b : Binding} (es : List Equation) → Binds bs e b → unbound (b ∷ bs) es < unbound bs (e ∷ es)
fewer_bound bs l {e = e} {b = b} es h =
    let i = in_distinct bs (e ∷ es) in
    let w = binds_in bs l (distinct (metas_under bs (e ∷ es))) es h i.0 i.1 in
    let n = unbound_least w.0 (b ∷ bs) es w.2 in omega (arith, n, w.1)

-- Weights, and the metavariables that occur, by which unification ends.
use Rattle.std.proofs.Common.{ℕ, ◌≡◌, ◌≢◌, ◌<◌, ◌≤◌, ◌⊎◌, inl, inr, List, [], ◌∷◌, length, ap, sym, subst, ◌∙◌, arith}
use Rattle.std.proofs.lemmas.Bool.Decides.{eqb_tells}
use Rattle.zm_logic.specs.Tree.{Ty, Tys, Term, Terms}
use Rattle.unify.specs.Metas.{Variable}
use Rattle.unify.specs.Weight.{type_weight, types_weight, term_weight, terms_weight}
use Rattle.unify.specs.Substitution.{Substitution, put_type, put_types, put_term, put_terms}
use Rattle.unify.specs.Binding.{only_type, only_term}
use Rattle.unify.specs.Unification.{LacksTypeMeta, LackTypeMeta, LacksTermMeta, LackTermMeta}
use Rattle.unify.proofs.Same.{same_meta_tells}

-- a metavariable occurs, and then what it stands for weighs no more than the tree, or it doesn't
mutual
  pub occurs_type : (m : ℕ) (t : Ty) → LacksTypeMeta m t ⊎ ((a : Substitution) → type_weight (a.type m) ≤ type_weight (put_type a t))
  occurs_type m (Ty.bound i) = inl tt
  occurs_type m (Ty.param i) = inl tt
  occurs_type m (Ty.meta n) = elim (eqb_tells n m) [ inl x ↦ inr (λ a. subst (λ k. type_weight (a.type m) ≤ type_weight (a.type k)) (sym x.1) (omega arith)) | inr x ↦ inl x.1 ]
  occurs_type m (Ty.con c ts) = elim (occur_types m ts) [ inl x ↦ inl x | inr x ↦ inr (λ a. omega (arith, x a)) ]

  pub occur_types : (m : ℕ) (ts : Tys) → LackTypeMeta m ts ⊎ ((a : Substitution) → type_weight (a.type m) ≤ types_weight (put_types a ts))
  occur_types m Tys.none = inl tt
  occur_types m (Tys.more t ts) = elim (occurs_type m t) [
    | inr x ↦ inr (λ a. omega (arith, x a))
    | inl x ↦ elim (occur_types m ts) [ inl y ↦ inl (x, y) | inr y ↦ inr (λ a. omega (arith, y a)) ]
  ]

mutual
  pub occurs_term : (m : ℕ) (k : Ty) (t : Term) → LacksTermMeta m k t ⊎ ((a : Substitution) → term_weight (a.term m k) ≤ term_weight (put_term a t))
  occurs_term m k (Term.bound i) = inl tt
  occurs_term m k (Term.eps i t) = inl tt
  occurs_term m k (Term.meta n t) = elim (same_meta_tells n m t k) [
    | inl x ↦ inr (λ a. subst (λ y. term_weight (a.term m k) ≤ term_weight (put_term a y)) (sym x.1) (omega arith))
    | inr x ↦ inl x.1
  ]
  occurs_term m k (Term.app f ts us) = elim (occur_terms m k us) [ inl x ↦ inl x | inr x ↦ inr (λ a. omega (arith, x a)) ]

  pub occur_terms : (m : ℕ) (k : Ty) (us : Terms) → LackTermMeta m k us ⊎ ((a : Substitution) → term_weight (a.term m k) ≤ terms_weight (put_terms a us))
  occur_terms m k Terms.none = inl tt
  occur_terms m k (Terms.more t ts) = elim (occurs_term m k t) [
    | inr x ↦ inr (λ a. omega (arith, x a))
    | inl x ↦ elim (occur_terms m k ts) [ inl y ↦ inl (x, y) | inr y ↦ inr (λ a. omega (arith, y a)) ]
  ]

pub variable_decides : (x y : Variable) → (x ≡ y) ⊎ (x ≢ y)
variable_decides (Variable.type n) (Variable.type m) = elim (eqb_tells n m) [ inl x ↦ inl (ap Variable.type x.1) | inr x ↦ inr (λ e. x.1 (cc)) ]
variable_decides (Variable.type n) (Variable.term m k) = inr (λ e. cc)
variable_decides (Variable.term n t) (Variable.type m) = inr (λ e. cc)
variable_decides (Variable.term n t) (Variable.term m k) = elim (same_meta_tells n m t k) [ inl x ↦ (let e = x.1 in let p : n ≡ m = cc in let q : t ≡ k = cc in inl (cc)) | inr x ↦ inr (λ e. (let p : n ≡ m = cc in let q : t ≡ k = cc in x.1 (cc))) ]

abbrev pub Among : Variable → List Variable → Type 0
Among v [] = ⊥
Among v (x ∷ xs) = (v ≡ x) ⊎ Among v xs

-- a list without a variable of it
pub without : (v : Variable) (xs : List Variable) → Among v xs → (ys : List Variable) × (length ys < length xs) × ((u : Variable) → Among u xs → u ≢ v → Among u ys)
without v [] h = absurd h
without v (x ∷ xs) (inl e) = (xs, omega arith, λ u a n. elim a [ inl f ↦ absurd (n (f ∙ sym e)) | inr f ↦ f ])
without v (x ∷ xs) (inr h) =
    let r = without v xs h in
    (x ∷ r.0, omega (arith, r.1), λ u a n. elim a [ inl f ↦ inl f | inr f ↦ inr (r.2 u f n) ])

-- each metavariable of the tree is in the list
abbrev mutual
  pub TypeIn : List Variable → Ty → Type 0
  TypeIn vs (Ty.bound i) = Unit {0}
  TypeIn vs (Ty.param n) = Unit {0}
  TypeIn vs (Ty.meta n) = Among (Variable.type n) vs
  TypeIn vs (Ty.con c ts) = TypesIn vs ts

  pub TypesIn : List Variable → Tys → Type 0
  TypesIn vs Tys.none = Unit {0}
  TypesIn vs (Tys.more t ts) = TypeIn vs t × TypesIn vs ts

abbrev mutual
  pub TermIn : List Variable → Term → Type 0
  TermIn vs (Term.bound i) = Unit {0}
  TermIn vs (Term.eps n t) = Unit {0}
  TermIn vs (Term.meta n t) = Among (Variable.term n t) vs
  TermIn vs (Term.app f ts us) = TypesIn vs ts × TermsIn vs us

  pub TermsIn : List Variable → Terms → Type 0
  TermsIn vs Terms.none = Unit {0}
  TermsIn vs (Terms.more u us) = TermIn vs u × TermsIn vs us

module _ (vs ws : List Variable) (m : ℕ) (keep : (u : Variable) → Among u vs → u ≢ Variable.type m → Among u ws) where
  mutual
    pub type_lacking_in : (t : Ty) → TypeIn vs t → LacksTypeMeta m t → TypeIn ws t
    type_lacking_in (Ty.bound i) h l = tt
    type_lacking_in (Ty.param i) h l = tt
    type_lacking_in (Ty.meta n) h l = keep (Variable.type n) h (λ e. l (cc))
    type_lacking_in (Ty.con c ts) h l = types_lacking_in ts h l

    pub types_lacking_in : (ts : Tys) → TypesIn vs ts → LackTypeMeta m ts → TypesIn ws ts
    types_lacking_in Tys.none h l = tt
    types_lacking_in (Tys.more t ts) h l = (type_lacking_in t h.0 l.0, types_lacking_in ts h.1 l.1)

  module _ (u : Ty) (g : TypeIn ws u) where
    mutual
      pub type_put_in : (t : Ty) → TypeIn vs t → TypeIn ws (put_type (only_type m u) t)
      type_put_in (Ty.bound i) h = tt
      type_put_in (Ty.param i) h = tt
      type_put_in (Ty.meta n) h = elim (eqb_tells n m) [ inl x ↦ rw x.0 g | inr x ↦ rw x.0 (keep (Variable.type n) h (λ e. x.1 (cc))) ]
      type_put_in (Ty.con c ts) h = types_put_in ts h

      pub types_put_in : (ts : Tys) → TypesIn vs ts → TypesIn ws (put_types (only_type m u) ts)
      types_put_in Tys.none h = tt
      types_put_in (Tys.more t ts) h = (type_put_in t h.0, types_put_in ts h.1)

    mutual
      pub term_put_type_in : (t : Term) → TermIn vs t → TermIn ws (put_term (only_type m u) t)
      term_put_type_in (Term.bound i) h = tt
      term_put_type_in (Term.eps i t) h = tt
      term_put_type_in (Term.meta n t) h = keep (Variable.term n t) h (λ e. cc)
      term_put_type_in (Term.app f ts us) h = (types_put_in ts h.0, terms_put_type_in us h.1)

      pub terms_put_type_in : (us : Terms) → TermsIn vs us → TermsIn ws (put_terms (only_type m u) us)
      terms_put_type_in Terms.none h = tt
      terms_put_type_in (Terms.more t ts) h = (term_put_type_in t h.0, terms_put_type_in ts h.1)

module _ (vs ws : List Variable) (m : ℕ) (k : Ty) (keep : (u : Variable) → Among u vs → u ≢ Variable.term m k → Among u ws) where
  mutual
    pub type_still_in : (t : Ty) → TypeIn vs t → TypeIn ws t
    type_still_in (Ty.bound i) h = tt
    type_still_in (Ty.param i) h = tt
    type_still_in (Ty.meta n) h = keep (Variable.type n) h (λ e. cc)
    type_still_in (Ty.con c ts) h = types_still_in ts h

    pub types_still_in : (ts : Tys) → TypesIn vs ts → TypesIn ws ts
    types_still_in Tys.none h = tt
    types_still_in (Tys.more t ts) h = (type_still_in t h.0, types_still_in ts h.1)

  mutual
    pub term_lacking_in : (t : Term) → TermIn vs t → LacksTermMeta m k t → TermIn ws t
    term_lacking_in (Term.bound i) h l = tt
    term_lacking_in (Term.eps i t) h l = tt
    term_lacking_in (Term.meta n t) h l = keep (Variable.term n t) h (λ e. (let p : n ≡ m = cc in let q : t ≡ k = cc in l (cc)))
    term_lacking_in (Term.app f ts us) h l = (types_still_in ts h.0, terms_lacking_in us h.1 l)

    pub terms_lacking_in : (ts : Terms) → TermsIn vs ts → LackTermMeta m k ts → TermsIn ws ts
    terms_lacking_in Terms.none h l = tt
    terms_lacking_in (Terms.more t ts) h l = (term_lacking_in t h.0 l.0, terms_lacking_in ts h.1 l.1)

  module _ (u : Term) (g : TermIn ws u) where
    mutual
      types_put_term_in : (ts : Tys) → TypesIn vs ts → TypesIn ws (put_types (only_term m k u) ts)
      types_put_term_in Tys.none h = tt
      types_put_term_in (Tys.more t ts) h = (type_put_term_in t h.0, types_put_term_in ts h.1)

      type_put_term_in : (t : Ty) → TypeIn vs t → TypeIn ws (put_type (only_term m k u) t)
      type_put_term_in (Ty.bound i) h = tt
      type_put_term_in (Ty.param i) h = tt
      type_put_term_in (Ty.meta n) h = keep (Variable.type n) h (λ e. cc)
      type_put_term_in (Ty.con c ts) h = types_put_term_in ts h

    mutual
      pub term_put_in : (t : Term) → TermIn vs t → TermIn ws (put_term (only_term m k u) t)
      term_put_in (Term.bound i) h = tt
      term_put_in (Term.eps i t) h = tt
      term_put_in (Term.meta n t) h = elim (same_meta_tells n m t k) [
        | inl x ↦ rw x.0 g
        | inr x ↦ rw x.0 (keep (Variable.term n t) h (λ e. (let p : n ≡ m = cc in let q : t ≡ k = cc in x.1 (cc))))
      ]
      term_put_in (Term.app f ts us) h = (types_put_term_in ts h.0, terms_put_in us h.1)

      pub terms_put_in : (ts : Terms) → TermsIn vs ts → TermsIn ws (put_terms (only_term m k u) ts)
      terms_put_in Terms.none h = tt
      terms_put_in (Terms.more t ts) h = (term_put_in t h.0, terms_put_in ts h.1)

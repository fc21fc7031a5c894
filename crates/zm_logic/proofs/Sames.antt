-- The test of sameness decides equality.
use Rattle.std.proofs.Common.{◌≡◌, true, ◌&&◌, refl, ap, List, [], ◌∷◌, ◌⊎◌, inl, inr, Contains, arith}
use Rattle.std.proofs.lemmas.Bool.{eqb-true, eq-eqb, and_parts, and_from, or_cases, or_left, or_right}
use Rattle.std.proofs.lemmas.List.Elements.{Contains-append_left, Contains-append_right, Contains-append_cases, Contains-push, Contains-push_cases}
use Rattle.zm_logic.specs.Tree.{Ty, Tys, Term, Terms, Form, Connective, Quantifier}
use Rattle.zm_logic.specs.Laws as laws
use Rattle.zm_logic.specs.Same.{same_connective, same_quantifier, same_type, same_types, same_term, same_terms, same, has}

mutual
  pub same_type-self : (t : Ty) → same_type t t ≡ true
  same_type-self (Ty.bound n) = eq-eqb n n refl
  same_type-self (Ty.param n) = eq-eqb n n refl
  same_type-self (Ty.meta n) = eq-eqb n n refl
  same_type-self (Ty.con n ts) = and_from _ _ (eq-eqb n n refl) (same_types-self ts)

  pub same_types-self : (ts : Tys) → same_types ts ts ≡ true
  same_types-self Tys.none = refl
  same_types-self (Tys.more t ts) = and_from _ _ (same_type-self t) (same_types-self ts)

mutual
  pub same_term-self : (t : Term) → same_term t t ≡ true
  same_term-self (Term.bound n) = eq-eqb n n refl
  same_term-self (Term.eps n t) = and_from _ _ (eq-eqb n n refl) (same_type-self t)
  same_term-self (Term.meta n t) = and_from _ _ (eq-eqb n n refl) (same_type-self t)
  same_term-self (Term.app n ts xs) = and_from _ _ (eq-eqb n n refl) (and_from _ _ (same_types-self ts) (same_terms-self xs))

  pub same_terms-self : (ts : Terms) → same_terms ts ts ≡ true
  same_terms-self Terms.none = refl
  same_terms-self (Terms.more t ts) = and_from _ _ (same_term-self t) (same_terms-self ts)

pub same_connective-self : (c : Connective) → same_connective c c ≡ true
same_connective-self Connective.conjunction = refl
same_connective-self Connective.disjunction = refl
same_connective-self Connective.implication = refl
same_connective-self Connective.equivalence = refl

pub same_quantifier-self : (q : Quantifier) → same_quantifier q q ≡ true
same_quantifier-self Quantifier.universal = refl
same_quantifier-self Quantifier.existential = refl

pub same_connective-true : (c d : Connective) → same_connective c d ≡ true → c ≡ d
same_connective-true Connective.conjunction Connective.conjunction h = refl
same_connective-true Connective.disjunction Connective.disjunction h = refl
same_connective-true Connective.implication Connective.implication h = refl
same_connective-true Connective.equivalence Connective.equivalence h = refl
same_connective-true c d h = cc

pub same_quantifier-true : (p q : Quantifier) → same_quantifier p q ≡ true → p ≡ q
same_quantifier-true Quantifier.universal Quantifier.universal h = refl
same_quantifier-true Quantifier.existential Quantifier.existential h = refl
same_quantifier-true p q h = cc

pub same-self : (f : Form) → same f f ≡ true
same-self Form.truth = refl
same-self Form.falsity = refl
same-self (Form.atom n ts xs) = and_from _ _ (eq-eqb n n refl) (and_from _ _ (same_types-self ts) (same_terms-self xs))
same-self (Form.equal t a b) = and_from _ _ (same_type-self t) (and_from _ _ (same_term-self a) (same_term-self b))
same-self (Form.negation f) = same-self f
same-self (Form.binary c f g) = and_from _ _ (same_connective-self c) (and_from _ _ (same-self f) (same-self g))
same-self (Form.quantified q t f) = and_from _ _ (same_quantifier-self q) (and_from _ _ (same_type-self t) (same-self f))
same-self (Form.quantified_types q f) = and_from _ _ (same_quantifier-self q) (same-self f)

mutual
  pub same_type-true : (t u : Ty) → same_type t u ≡ true → t ≡ u
  same_type-true (Ty.bound m) (Ty.bound n) h = ap Ty.bound (eqb-true m n h)
  same_type-true (Ty.param m) (Ty.param n) h = ap Ty.param (eqb-true m n h)
  same_type-true (Ty.meta m) (Ty.meta n) h = ap Ty.meta (eqb-true m n h)
  same_type-true (Ty.con m ts) (Ty.con n us) h =
      let b = and_parts _ _ h in let p = eqb-true m n b.0 in let q = same_types-true ts us b.1 in cc
  same_type-true t u h = cc

  pub same_types-true : (ts us : Tys) → same_types ts us ≡ true → ts ≡ us
  same_types-true Tys.none Tys.none h = refl
  same_types-true (Tys.more t ts) (Tys.more u us) h =
      let b = and_parts _ _ h in let p = same_type-true t u b.0 in let q = same_types-true ts us b.1 in cc
  same_types-true ts us h = cc

mutual
  pub same_term-true : (t u : Term) → same_term t u ≡ true → t ≡ u
  same_term-true (Term.bound m) (Term.bound n) h = ap Term.bound (eqb-true m n h)
  same_term-true (Term.eps m t) (Term.eps n u) h =
      let b = and_parts _ _ h in let p = eqb-true m n b.0 in let q = same_type-true t u b.1 in cc
  same_term-true (Term.meta m t) (Term.meta n u) h =
      let b = and_parts _ _ h in let p = eqb-true m n b.0 in let q = same_type-true t u b.1 in cc
  same_term-true (Term.app m ts xs) (Term.app n us ys) h =
      let b = and_parts _ _ h in let d = and_parts _ _ b.1 in
      let p = eqb-true m n b.0 in let q = same_types-true ts us d.0 in let r = same_terms-true xs ys d.1 in cc
  same_term-true t u h = cc

  pub same_terms-true : (ts us : Terms) → same_terms ts us ≡ true → ts ≡ us
  same_terms-true Terms.none Terms.none h = refl
  same_terms-true (Terms.more t ts) (Terms.more u us) h =
      let b = and_parts _ _ h in let p = same_term-true t u b.0 in let q = same_terms-true ts us b.1 in cc
  same_terms-true ts us h = cc

pub same-true : (f g : Form) → same f g ≡ true → f ≡ g
same-true Form.truth Form.truth h = refl
same-true Form.falsity Form.falsity h = refl
same-true (Form.atom m ts xs) (Form.atom n us ys) h =
    let b = and_parts _ _ h in let d = and_parts _ _ b.1 in
    let p = eqb-true m n b.0 in let q = same_types-true ts us d.0 in let r = same_terms-true xs ys d.1 in cc
same-true (Form.equal t a b) (Form.equal u c d) h =
    let k = and_parts _ _ h in let l = and_parts _ _ k.1 in
    let p = same_type-true t u k.0 in let q = same_term-true a c l.0 in let r = same_term-true b d l.1 in cc
same-true (Form.negation f) (Form.negation g) h = ap Form.negation (same-true f g h)
same-true (Form.binary c f a) (Form.binary d g b) h =
    let k = and_parts (same_connective c d) (same f g && same a b) h in let l = and_parts (same f g) (same a b) k.1 in
    let o = same_connective-true c d k.0 in let p = same-true f g l.0 in let q = same-true a b l.1 in cc
same-true (Form.quantified c t f) (Form.quantified d u g) h =
    let k = and_parts (same_quantifier c d) (same_type t u && same f g) h in let l = and_parts (same_type t u) (same f g) k.1 in
    let o = same_quantifier-true c d k.0 in let p = same_type-true t u l.0 in let q = same-true f g l.1 in cc
same-true (Form.quantified_types c f) (Form.quantified_types d g) h =
    let k = and_parts (same_quantifier c d) (same f g) h in
    let o = same_quantifier-true c d k.0 in let p = same-true f g k.1 in cc
same-true f g h = cc

pub Contains-here : {A : Type 0} (x : A) (xs : List A) → Contains (x ∷ xs) x
Contains-here x xs = Contains-append_left (x ∷ []) xs x (Contains-push [] x)

pub Contains-there : {A : Type 0} (x : A) (xs : List A) (y : A) → Contains xs y → Contains (x ∷ xs) y
Contains-there x xs y h = Contains-append_right (x ∷ []) xs y h

pub Contains-none : {A : Type 0} (y : A) → Contains [] y → ⊥
Contains-none y h = omega arith

pub only : {A : Type 0} (x y : A) → Contains (x ∷ []) y → x ≡ y
only x y h = elim (Contains-push_cases [] x y h) [ inl a ↦ absurd (Contains-none y a) | inr e ↦ e ]

pub Contains-cases : {A : Type 0} (x : A) (xs : List A) (y : A) → Contains (x ∷ xs) y → (x ≡ y) ⊎ Contains xs y
Contains-cases x xs y h =
    elim (Contains-append_cases (x ∷ []) xs y h) [ inl a ↦ inl (only x y a) | inr a ↦ inr a ]

pub has-contains : (gs : List Form) (f : Form) → has gs f ≡ true → Contains gs f
has-contains [] f h = cc
has-contains (g ∷ gs) f h =
    elim (or_cases _ _ h) [ inl a ↦ let e = same-true g f a in rw e (Contains-here f gs) | inr a ↦ Contains-there g gs f (has-contains gs f a) ]

pub contains-has : (gs : List Form) (f : Form) → Contains gs f → has gs f ≡ true
contains-has [] f h = absurd (Contains-none f h)
contains-has (g ∷ gs) f h =
    elim (Contains-cases g gs f h) [ inl e ↦ or_left (same g f) (has gs f) (rw e (same-self f)) | inr a ↦ or_right (same g f) (has gs f) (contains-has gs f a) ]

pub types_decided : laws.SameTypesAreEqual
types_decided t u = (same_type-true t u, λ e. rw e (same_type-self u))

pub terms_decided : laws.SameTermsAreEqual
terms_decided a b = (same_term-true a b, λ e. rw e (same_term-self b))

pub forms_decided : laws.SameFormsAreEqual
forms_decided f g = (same-true f g, λ e. rw e (same-self g))

pub membership_decided : laws.HasIsMembership
membership_decided fs f = (has-contains fs f, contains-has fs f)

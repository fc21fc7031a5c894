-- Trees whose indices are each that of a binder of its kind. A well typed formula is one.
use Rattle.std.proofs.Common.{ℕ, ◌≡◌, ◌+◌, ◌<◌, ◌≤◌, ◌==◌, ltb, Bool, true, false, if◌then◌else◌, refl, sym, subst, arith, List, [], ◌∷◌, ◌++◌, length, length-append, Some, None}
use Rattle.std.proofs.lemmas.Bool.{ne_eqb, ltb-false}
use Rattle.std.proofs.lemmas.Bool.Decides.{Decides-ltb}
use Rattle.zm_logic.specs.Tree.{Ty, Tys, Term, Terms, Form, Binder, Opening, Symbol}
use Rattle.zm_logic.specs.Opening.{type_at, term_at, open_type, open_types, open_term, open_terms, open_at, at_term, at_type}
use Rattle.zm_logic.specs.Index.{IsClosedType, AreClosedTypes, IsClosedTerm, AreClosedTerms, IsClosed}
use Rattle.zm_logic.specs.Typing.{WellTyped}
use Rattle.rule_index.specs.Matching.{is_of, binder_at, IsTypeBinder, IsTermBinder}
use Rattle.rule_index.proofs.Equal.{number}
use Rattle.rule_index.proofs.Commute.{IsClosedPart}
use Rattle.zm_logic.proofs.ClosedForm.{form_is_closed}

-- under the binders, the outermost first
module _ (bs : List Binder) where
  abbrev mutual
    pub IsScopedType : Ty → Type 0
    IsScopedType (Ty.bound i) = IsTypeBinder (binder_at bs i)
    IsScopedType (Ty.param n) = Unit {0}
    IsScopedType (Ty.meta n) = Unit {0}
    IsScopedType (Ty.con c ts) = AreScopedTypes ts

    pub AreScopedTypes : Tys → Type 0
    AreScopedTypes Tys.none = Unit {0}
    AreScopedTypes (Tys.more t ts) = IsScopedType t × AreScopedTypes ts

  abbrev mutual
    pub IsScopedTerm : Term → Type 0
    IsScopedTerm (Term.bound i) = IsTermBinder (binder_at bs i)
    IsScopedTerm (Term.eps n t) = IsScopedType t
    IsScopedTerm (Term.meta n t) = IsScopedType t
    IsScopedTerm (Term.app f ts us) = AreScopedTypes ts × AreScopedTerms us

    pub AreScopedTerms : Terms → Type 0
    AreScopedTerms Terms.none = Unit {0}
    AreScopedTerms (Terms.more u us) = IsScopedTerm u × AreScopedTerms us

-- a binder of terms: its type doesn't matter here
abbrev pub a_term : Binder
a_term = Binder.of_term (Ty.bound 0)

abbrev pub IsScoped : List Binder → Form → Type 0
IsScoped bs Form.truth = Unit {0}
IsScoped bs Form.falsity = Unit {0}
IsScoped bs (Form.atom p ts us) = AreScopedTypes bs ts × AreScopedTerms bs us
IsScoped bs (Form.equal t a b) = IsScopedType bs t × IsScopedTerm bs a × IsScopedTerm bs b
IsScoped bs (Form.negation f) = IsScoped bs f
IsScoped bs (Form.binary c f g) = IsScoped bs f × IsScoped bs g
IsScoped bs (Form.quantified q t f) = IsScopedType bs t × IsScoped (bs ++ a_term ∷ []) f
IsScoped bs (Form.quantified_types q f) = IsScoped (bs ++ Binder.of_type ∷ []) f

-- a tree without loose indices is one under any binders
mutual
  closed_scoped_type : (bs : List Binder) (t : Ty) → IsClosedType 0 t → IsScopedType bs t
  closed_scoped_type bs (Ty.bound i) h = absurd (omega arith)
  closed_scoped_type bs (Ty.param n) h = tt
  closed_scoped_type bs (Ty.meta n) h = tt
  closed_scoped_type bs (Ty.con c ts) h = closed_scoped_types bs ts h

  closed_scoped_types : (bs : List Binder) (ts : Tys) → AreClosedTypes 0 ts → AreScopedTypes bs ts
  closed_scoped_types bs Tys.none h = tt
  closed_scoped_types bs (Tys.more t ts) h = (closed_scoped_type bs t h.0, closed_scoped_types bs ts h.1)

mutual
  closed_scoped_term : (bs : List Binder) (a : Term) → IsClosedTerm 0 a → IsScopedTerm bs a
  closed_scoped_term bs (Term.bound i) h = absurd (omega arith)
  closed_scoped_term bs (Term.eps n t) h = closed_scoped_type bs t h
  closed_scoped_term bs (Term.meta n t) h = closed_scoped_type bs t h
  closed_scoped_term bs (Term.app f ts us) h = (closed_scoped_types bs ts h.0, closed_scoped_terms bs us h.1)

  closed_scoped_terms : (bs : List Binder) (us : Terms) → AreClosedTerms 0 us → AreScopedTerms bs us
  closed_scoped_terms bs Terms.none h = tt
  closed_scoped_terms bs (Terms.more a us) h = (closed_scoped_term bs a h.0, closed_scoped_terms bs us h.1)

pub length_more : (bs : List Binder) (b : Binder) → length (bs ++ b ∷ []) ≡ length bs + 1
length_more bs b = rw (length-append bs (b ∷ []))

-- an index past the binders has none
pub past_binder : (bs : List Binder) (i : ℕ) → length bs ≤ i → binder_at bs i ≡ None
past_binder [] i h = refl
past_binder (b ∷ bs) i h = rw (ne_eqb i (length bs) (λ x. omega arith)) (past_binder bs i (omega arith))

no_binder_type : (bs : List Binder) (i : ℕ) → i ≡ length bs → IsTypeBinder (binder_at bs i) → ⊥
no_binder_type bs i e h = subst IsTypeBinder (past_binder bs i (omega arith)) h

no_binder_term : (bs : List Binder) (i : ℕ) → i ≡ length bs → IsTermBinder (binder_at bs i) → ⊥
no_binder_term bs i e h = subst IsTermBinder (past_binder bs i (omega arith)) h

-- opening the outermost binder's index takes the binder away, and only that

opened_type_at : (b : Binder) (o : Opening) → is_of o b ≡ true → IsClosedPart o → (bs : List Binder) (i : ℕ) → IsTypeBinder (binder_at (b ∷ bs) i)
    → IsScopedType bs (type_at (length bs) o i)
opened_type_at Binder.of_type (Opening.of_type t) k c bs i h = go (i == length bs) h
  where
    go : (z : Bool) → IsTypeBinder (if z then Some Binder.of_type else binder_at bs i) → IsScopedType bs (if z then t else Ty.bound i)
    go true h = closed_scoped_type bs t c
    go false h = h
opened_type_at (Binder.of_term v) (Opening.of_term u) k c bs i h = go (i == length bs) h
  where
    go : (z : Bool) → IsTypeBinder (if z then Some (Binder.of_term v) else binder_at bs i) → IsScopedType bs (Ty.bound i)
    go true h = absurd h
    go false h = h
opened_type_at (Binder.of_term v) (Opening.of_type t) k c bs i h = cc
opened_type_at Binder.of_type (Opening.of_term t) k c bs i h = cc

back_type_at : (b : Binder) (o : Opening) → is_of o b ≡ true → (bs : List Binder) (i : ℕ) → IsScopedType bs (type_at (length bs) o i)
    → IsTypeBinder (binder_at (b ∷ bs) i)
back_type_at Binder.of_type (Opening.of_type t) k bs i h = go (i == length bs) refl h
  where
    go : (z : Bool) → (i == length bs) ≡ z → IsScopedType bs (if z then t else Ty.bound i) → IsTypeBinder (if z then Some Binder.of_type else binder_at bs i)
    go true e h = tt
    go false e h = h
back_type_at (Binder.of_term v) (Opening.of_term u) k bs i h = go (i == length bs) refl h
  where
    go : (z : Bool) → (i == length bs) ≡ z → IsScopedType bs (Ty.bound i) → IsTypeBinder (if z then Some (Binder.of_term v) else binder_at bs i)
    go true e h = absurd (no_binder_type bs i (number i (length bs) e) h)
    go false e h = h
back_type_at (Binder.of_term v) (Opening.of_type t) k bs i h = cc
back_type_at Binder.of_type (Opening.of_term t) k bs i h = cc

opened_term_at : (b : Binder) (o : Opening) → is_of o b ≡ true → IsClosedPart o → (bs : List Binder) (i : ℕ) → IsTermBinder (binder_at (b ∷ bs) i)
    → IsScopedTerm bs (term_at (length bs) o i)
opened_term_at Binder.of_type (Opening.of_type t) k c bs i h = go (i == length bs) h
  where
    go : (z : Bool) → IsTermBinder (if z then Some Binder.of_type else binder_at bs i) → IsScopedTerm bs (Term.bound i)
    go true h = absurd h
    go false h = h
opened_term_at (Binder.of_term v) (Opening.of_term u) k c bs i h = go (i == length bs) h
  where
    go : (z : Bool) → IsTermBinder (if z then Some (Binder.of_term v) else binder_at bs i) → IsScopedTerm bs (if z then u else Term.bound i)
    go true h = closed_scoped_term bs u c
    go false h = h
opened_term_at (Binder.of_term v) (Opening.of_type t) k c bs i h = cc
opened_term_at Binder.of_type (Opening.of_term t) k c bs i h = cc

back_term_at : (b : Binder) (o : Opening) → is_of o b ≡ true → (bs : List Binder) (i : ℕ) → IsScopedTerm bs (term_at (length bs) o i)
    → IsTermBinder (binder_at (b ∷ bs) i)
back_term_at Binder.of_type (Opening.of_type t) k bs i h = go (i == length bs) refl h
  where
    go : (z : Bool) → (i == length bs) ≡ z → IsScopedTerm bs (Term.bound i) → IsTermBinder (if z then Some Binder.of_type else binder_at bs i)
    go true e h = absurd (no_binder_term bs i (number i (length bs) e) h)
    go false e h = h
back_term_at (Binder.of_term v) (Opening.of_term u) k bs i h = go (i == length bs) refl h
  where
    go : (z : Bool) → (i == length bs) ≡ z → IsScopedTerm bs (if z then u else Term.bound i) → IsTermBinder (if z then Some (Binder.of_term v) else binder_at bs i)
    go true e h = tt
    go false e h = h
back_term_at (Binder.of_term v) (Opening.of_type t) k bs i h = cc
back_term_at Binder.of_type (Opening.of_term t) k bs i h = cc

module _ (b : Binder) (o : Opening) (kind : is_of o b ≡ true) (c : IsClosedPart o) where
  mutual
    pub opened_scoped_type : (bs : List Binder) (t : Ty) → IsScopedType (b ∷ bs) t → IsScopedType bs (open_type (length bs) o t)
    opened_scoped_type bs (Ty.bound i) h = opened_type_at b o kind c bs i h
    opened_scoped_type bs (Ty.param n) h = tt
    opened_scoped_type bs (Ty.meta n) h = tt
    opened_scoped_type bs (Ty.con f ts) h = opened_scoped_types bs ts h

    pub opened_scoped_types : (bs : List Binder) (ts : Tys) → AreScopedTypes (b ∷ bs) ts → AreScopedTypes bs (open_types (length bs) o ts)
    opened_scoped_types bs Tys.none h = tt
    opened_scoped_types bs (Tys.more t ts) h = (opened_scoped_type bs t h.0, opened_scoped_types bs ts h.1)

  mutual
    pub opened_scoped_term : (bs : List Binder) (a : Term) → IsScopedTerm (b ∷ bs) a → IsScopedTerm bs (open_term (length bs) o a)
    opened_scoped_term bs (Term.bound i) h = opened_term_at b o kind c bs i h
    opened_scoped_term bs (Term.eps n t) h = opened_scoped_type bs t h
    opened_scoped_term bs (Term.meta n t) h = opened_scoped_type bs t h
    opened_scoped_term bs (Term.app f ts us) h = (opened_scoped_types bs ts h.0, opened_scoped_terms bs us h.1)

    pub opened_scoped_terms : (bs : List Binder) (us : Terms) → AreScopedTerms (b ∷ bs) us → AreScopedTerms bs (open_terms (length bs) o us)
    opened_scoped_terms bs Terms.none h = tt
    opened_scoped_terms bs (Terms.more a us) h = (opened_scoped_term bs a h.0, opened_scoped_terms bs us h.1)

  pub opened_scoped : (bs : List Binder) (f : Form) → IsScoped (b ∷ bs) f → IsScoped bs (open_at (length bs) o f)
  opened_scoped bs Form.truth h = tt
  opened_scoped bs Form.falsity h = tt
  opened_scoped bs (Form.atom q ts us) h = (opened_scoped_types bs ts h.0, opened_scoped_terms bs us h.1)
  opened_scoped bs (Form.equal t x y) h = (opened_scoped_type bs t h.0, opened_scoped_term bs x h.1, opened_scoped_term bs y h.2)
  opened_scoped bs (Form.negation f) h = opened_scoped bs f h
  opened_scoped bs (Form.binary x f g) h = (opened_scoped bs f h.0, opened_scoped bs g h.1)
  opened_scoped bs (Form.quantified q t f) h =
      let ih = opened_scoped (bs ++ a_term ∷ []) f h.1 in
      (opened_scoped_type bs t h.0, subst (λ k. IsScoped (bs ++ a_term ∷ []) (open_at k o f)) (length_more bs a_term) ih)
  opened_scoped bs (Form.quantified_types q f) h =
      subst (λ k. IsScoped (bs ++ Binder.of_type ∷ []) (open_at k o f)) (length_more bs Binder.of_type) (opened_scoped (bs ++ Binder.of_type ∷ []) f h)

module _ (b : Binder) (o : Opening) (kind : is_of o b ≡ true) where
  mutual
    pub back_scoped_type : (bs : List Binder) (t : Ty) → IsScopedType bs (open_type (length bs) o t) → IsScopedType (b ∷ bs) t
    back_scoped_type bs (Ty.bound i) h = back_type_at b o kind bs i h
    back_scoped_type bs (Ty.param n) h = tt
    back_scoped_type bs (Ty.meta n) h = tt
    back_scoped_type bs (Ty.con f ts) h = back_scoped_types bs ts h

    pub back_scoped_types : (bs : List Binder) (ts : Tys) → AreScopedTypes bs (open_types (length bs) o ts) → AreScopedTypes (b ∷ bs) ts
    back_scoped_types bs Tys.none h = tt
    back_scoped_types bs (Tys.more t ts) h = (back_scoped_type bs t h.0, back_scoped_types bs ts h.1)

  mutual
    pub back_scoped_term : (bs : List Binder) (a : Term) → IsScopedTerm bs (open_term (length bs) o a) → IsScopedTerm (b ∷ bs) a
    back_scoped_term bs (Term.bound i) h = back_term_at b o kind bs i h
    back_scoped_term bs (Term.eps n t) h = back_scoped_type bs t h
    back_scoped_term bs (Term.meta n t) h = back_scoped_type bs t h
    back_scoped_term bs (Term.app f ts us) h = (back_scoped_types bs ts h.0, back_scoped_terms bs us h.1)

    pub back_scoped_terms : (bs : List Binder) (us : Terms) → AreScopedTerms bs (open_terms (length bs) o us) → AreScopedTerms (b ∷ bs) us
    back_scoped_terms bs Terms.none h = tt
    back_scoped_terms bs (Terms.more a us) h = (back_scoped_term bs a h.0, back_scoped_terms bs us h.1)

  pub back_scoped : (bs : List Binder) (f : Form) → IsScoped bs (open_at (length bs) o f) → IsScoped (b ∷ bs) f
  back_scoped bs Form.truth h = tt
  back_scoped bs Form.falsity h = tt
  back_scoped bs (Form.atom q ts us) h = (back_scoped_types bs ts h.0, back_scoped_terms bs us h.1)
  back_scoped bs (Form.equal t x y) h = (back_scoped_type bs t h.0, back_scoped_term bs x h.1, back_scoped_term bs y h.2)
  back_scoped bs (Form.negation f) h = back_scoped bs f h
  back_scoped bs (Form.binary x f g) h = (back_scoped bs f h.0, back_scoped bs g h.1)
  back_scoped bs (Form.quantified q t f) h = (
    back_scoped_type bs t h.0,
    back_scoped (bs ++ a_term ∷ []) f
        (subst (λ k. IsScoped (bs ++ a_term ∷ []) (open_at k o f)) (sym (length_more bs a_term))
        h.1),
  )
  back_scoped bs (Form.quantified_types q f) h =
      back_scoped (bs ++ Binder.of_type ∷ []) f (subst (λ k. IsScoped (bs ++ Binder.of_type ∷ []) (open_at k o f)) (sym (length_more bs Binder.of_type)) h)

-- a tree under binders has its indices below their number
mutual
  scoped_closed_type : (bs : List Binder) (t : Ty) → IsScopedType bs t → IsClosedType (length bs) t
  scoped_closed_type bs (Ty.bound i) h = go (ltb i (length bs)) refl
    where
      go : (z : Bool) → ltb i (length bs) ≡ z → i < length bs
      go true e = (Decides-ltb i (length bs)).0 e
      go false e = absurd (subst IsTypeBinder (past_binder bs i (ltb-false i (length bs) e)) h)
  scoped_closed_type bs (Ty.param n) h = tt
  scoped_closed_type bs (Ty.meta n) h = tt
  scoped_closed_type bs (Ty.con c ts) h = scoped_closed_types bs ts h

  scoped_closed_types : (bs : List Binder) (ts : Tys) → AreScopedTypes bs ts → AreClosedTypes (length bs) ts
  scoped_closed_types bs Tys.none h = tt
  scoped_closed_types bs (Tys.more t ts) h = (scoped_closed_type bs t h.0, scoped_closed_types bs ts h.1)

mutual
  scoped_closed_term : (bs : List Binder) (a : Term) → IsScopedTerm bs a → IsClosedTerm (length bs) a
  scoped_closed_term bs (Term.bound i) h = go (ltb i (length bs)) refl
    where
      go : (z : Bool) → ltb i (length bs) ≡ z → i < length bs
      go true e = (Decides-ltb i (length bs)).0 e
      go false e = absurd (subst IsTermBinder (past_binder bs i (ltb-false i (length bs) e)) h)
  scoped_closed_term bs (Term.eps n t) h = scoped_closed_type bs t h
  scoped_closed_term bs (Term.meta n t) h = scoped_closed_type bs t h
  scoped_closed_term bs (Term.app f ts us) h = (scoped_closed_types bs ts h.0, scoped_closed_terms bs us h.1)

  scoped_closed_terms : (bs : List Binder) (us : Terms) → AreScopedTerms bs us → AreClosedTerms (length bs) us
  scoped_closed_terms bs Terms.none h = tt
  scoped_closed_terms bs (Terms.more a us) h = (scoped_closed_term bs a h.0, scoped_closed_terms bs us h.1)

scoped_closed : (bs : List Binder) (f : Form) → IsScoped bs f → IsClosed (length bs) f
scoped_closed bs Form.truth h = tt
scoped_closed bs Form.falsity h = tt
scoped_closed bs (Form.atom q ts us) h = (scoped_closed_types bs ts h.0, scoped_closed_terms bs us h.1)
scoped_closed bs (Form.equal t x y) h = (scoped_closed_type bs t h.0, scoped_closed_term bs x h.1, scoped_closed_term bs y h.2)
scoped_closed bs (Form.negation f) h = scoped_closed bs f h
scoped_closed bs (Form.binary x f g) h = (scoped_closed bs f h.0, scoped_closed bs g h.1)
scoped_closed bs (Form.quantified q t f) h =
    (scoped_closed_type bs t h.0, subst (λ k. IsClosed k f) (length_more bs a_term) (scoped_closed (bs ++ a_term ∷ []) f h.1))
scoped_closed bs (Form.quantified_types q f) h = subst (λ k. IsClosed k f) (length_more bs Binder.of_type) (scoped_closed (bs ++ Binder.of_type ∷ []) f h)

pub scoped_is_closed : (f : Form) → IsScoped [] f → IsClosed 0 f
scoped_is_closed f h = scoped_closed [] f h

pub scoped_term_is_closed : (a : Term) → IsScopedTerm [] a → IsClosedTerm 0 a
scoped_term_is_closed a h = scoped_closed_term [] a h

pub scoped_type_is_closed : (t : Ty) → IsScopedType [] t → IsClosedType 0 t
scoped_type_is_closed t h = scoped_closed_type [] t h

-- the body at a parameter
pub scoped_at_eps : (n : ℕ) (t : Ty) (f : Form) → IsScopedType [] t → IsScoped (a_term ∷ []) f → IsScoped [] (at_term f (Term.eps n t))
scoped_at_eps n t f c h = opened_scoped a_term (Opening.of_term (Term.eps n t)) refl (scoped_type_is_closed t c) [] f h

pub scoped_at_param : (n : ℕ) (f : Form) → IsScoped (Binder.of_type ∷ []) f → IsScoped [] (at_type f (Ty.param n))
scoped_at_param n f h = opened_scoped Binder.of_type (Opening.of_type (Ty.param n)) refl tt [] f h

pub back_at_eps : (n : ℕ) (t : Ty) (f : Form) → IsScoped [] (at_term f (Term.eps n t)) → IsScoped (a_term ∷ []) f
back_at_eps n t f h = back_scoped a_term (Opening.of_term (Term.eps n t)) refl [] f h

pub back_at_param : (n : ℕ) (f : Form) → IsScoped [] (at_type f (Ty.param n)) → IsScoped (Binder.of_type ∷ []) f
back_at_param n f h = back_scoped Binder.of_type (Opening.of_type (Ty.param n)) refl [] f h

-- a well typed formula is one under no binders
module _ (symbols : List Symbol) where
  pub typed_is_scoped : {f : Form} → WellTyped symbols f → IsScoped [] f
  typed_is_scoped WellTyped.truth = tt
  typed_is_scoped WellTyped.falsity = tt
  typed_is_scoped (WellTyped.atom {p = p} {ts = ts} {us = us} h) =
      let c = form_is_closed symbols (WellTyped.atom h) in (closed_scoped_types [] ts c.0, closed_scoped_terms [] us c.1)
  typed_is_scoped (WellTyped.equal {t = t} {a = a} {b = b} h x y) =
      let c = form_is_closed symbols (WellTyped.equal h x y) in (closed_scoped_type [] t c.0, closed_scoped_term [] a c.1, closed_scoped_term [] b c.2)
  typed_is_scoped (WellTyped.negation h) = typed_is_scoped h
  typed_is_scoped (WellTyped.binary h k) = (typed_is_scoped h, typed_is_scoped k)
  typed_is_scoped (WellTyped.quantified {q = q} {t = t} {f = f} n fresh it h) =
      (closed_scoped_type [] t (form_is_closed symbols (WellTyped.quantified {q = q} n fresh it h)).0, back_at_eps n t f (typed_is_scoped h))
  typed_is_scoped (WellTyped.quantified_types {q = q} {f = f} n fresh h) = back_at_param n f (typed_is_scoped h)

-- Putting trees in for metavariables.
use Rattle.std.proofs.Common.{ℕ, ◌≡◌, ◌≢◌, inl, inr, Bool, true, false, if◌then◌else◌, refl, ap, sym, ◌∙◌}
use Rattle.std.proofs.lemmas.Bool.Decides.{eqb_tells}
use Rattle.zm_logic.specs.Tree.{Ty, Tys, Term, Terms}
use Rattle.unify.specs.Substitution.{Substitution, put_type, put_types, put_term, put_terms}
use Rattle.unify.specs.Binding.{only_type, only_term}
use Rattle.unify.specs.Unification.{LacksTypeMeta, LackTypeMeta, LacksTermMeta, LackTermMeta}
use Rattle.unify.proofs.Same.{same_meta_tells}

-- where the test is true, and where it is false
at_true : {A : Type 0} (b : Bool) (x y z : A) → b ≡ true → x ≡ z → (if b then x else y) ≡ z
at_true b x y z e h = rw e h

at_false : {A : Type 0} (b : Bool) (x y z : A) → b ≡ false → y ≡ z → (if b then x else y) ≡ z
at_false b x y z e h = rw e h

-- a substitution that gives m what it gives u takes no notice of u put in for m
module _ (a : Substitution) (m : ℕ) (u : Ty) (h : put_type a u ≡ a.type m) where
  mutual
    pub put_only_type : (t : Ty) → put_type a (put_type (only_type m u) t) ≡ put_type a t
    put_only_type (Ty.bound i) = refl
    put_only_type (Ty.param i) = refl
    put_only_type (Ty.meta n) = elim (eqb_tells n m) [ inl x ↦ rw x.0 (h ∙ ap a.type (sym x.1)) | inr x ↦ rw x.0 refl ]
    put_only_type (Ty.con c ts) = ap (Ty.con c) (put_only_types ts)

    pub put_only_types : (ts : Tys) → put_types a (put_types (only_type m u) ts) ≡ put_types a ts
    put_only_types Tys.none = refl
    put_only_types (Tys.more t ts) = let x = put_only_type t in let y = put_only_types ts in cc

  mutual
    pub put_only_type_in_term : (t : Term) → put_term a (put_term (only_type m u) t) ≡ put_term a t
    put_only_type_in_term (Term.bound i) = refl
    put_only_type_in_term (Term.eps n t) = refl
    put_only_type_in_term (Term.meta n t) = refl
    put_only_type_in_term (Term.app f ts us) = let x = put_only_types ts in let y = put_only_type_in_terms us in cc

    pub put_only_type_in_terms : (ts : Terms) → put_terms a (put_terms (only_type m u) ts) ≡ put_terms a ts
    put_only_type_in_terms Terms.none = refl
    put_only_type_in_terms (Terms.more t ts) = let x = put_only_type_in_term t in let y = put_only_type_in_terms ts in cc

-- types hold no metavariable over terms
mutual
  pub put_type_kept : (m : ℕ) (k : Ty) (u : Term) (t : Ty) → put_type (only_term m k u) t ≡ t
  put_type_kept m k u (Ty.bound i) = refl
  put_type_kept m k u (Ty.param i) = refl
  put_type_kept m k u (Ty.meta n) = refl
  put_type_kept m k u (Ty.con c ts) = ap (Ty.con c) (put_types_kept m k u ts)

  pub put_types_kept : (m : ℕ) (k : Ty) (u : Term) (ts : Tys) → put_types (only_term m k u) ts ≡ ts
  put_types_kept m k u Tys.none = refl
  put_types_kept m k u (Tys.more t ts) = let x = put_type_kept m k u t in let y = put_types_kept m k u ts in cc

module _ (a : Substitution) (m : ℕ) (k : Ty) (u : Term) (h : put_term a u ≡ a.term m k) where
  mutual
    pub put_only_term : (t : Term) → put_term a (put_term (only_term m k u) t) ≡ put_term a t
    put_only_term (Term.bound i) = refl
    put_only_term (Term.eps n t) = refl
    put_only_term (Term.meta n t) =
        elim (same_meta_tells n m t k) [ inl x ↦ rw x.0 (h ∙ sym (ap (put_term a) x.1)) | inr x ↦ rw x.0 refl ]
    put_only_term (Term.app f ts us) = let x = put_types_kept m k u ts in let y = put_only_terms us in rw (x, y) refl

    pub put_only_terms : (ts : Terms) → put_terms a (put_terms (only_term m k u) ts) ≡ put_terms a ts
    put_only_terms Terms.none = refl
    put_only_terms (Terms.more t ts) = let x = put_only_term t in let y = put_only_terms ts in cc

-- putting a tree in for a metavariable that doesn't occur changes nothing
module _ (m : ℕ) (u : Ty) where
  mutual
    pub lacking_type : (t : Ty) → LacksTypeMeta m t → put_type (only_type m u) t ≡ t
    lacking_type (Ty.bound i) h = refl
    lacking_type (Ty.param i) h = refl
    lacking_type (Ty.meta n) h = elim (eqb_tells n m) [ inl x ↦ absurd (h x.1) | inr x ↦ rw x.0 refl ]
    lacking_type (Ty.con c ts) h = ap (Ty.con c) (lacking_types ts h)

    pub lacking_types : (ts : Tys) → LackTypeMeta m ts → put_types (only_type m u) ts ≡ ts
    lacking_types Tys.none h = refl
    lacking_types (Tys.more t ts) h = let x = lacking_type t h.0 in let y = lacking_types ts h.1 in cc

module _ (m : ℕ) (k : Ty) (u : Term) where
  mutual
    pub lacking_term : (t : Term) → LacksTermMeta m k t → put_term (only_term m k u) t ≡ t
    lacking_term (Term.bound i) h = refl
    lacking_term (Term.eps n t) h = refl
    lacking_term (Term.meta n t) h = elim (same_meta_tells n m t k) [ inl x ↦ absurd (h x.1) | inr x ↦ rw x.0 refl ]
    lacking_term (Term.app f ts us) h = let x = put_types_kept m k u ts in let y = lacking_terms us h in cc

    pub lacking_terms : (ts : Terms) → LackTermMeta m k ts → put_terms (only_term m k u) ts ≡ ts
    lacking_terms Terms.none h = refl
    lacking_terms (Terms.more t ts) h = let x = lacking_term t h.0 in let y = lacking_terms ts h.1 in cc

-- what a metavariable stands for, where it stands for one tree
pub itself_type : (m : ℕ) (u : Ty) → put_type (only_type m u) (Ty.meta m) ≡ u
itself_type m u = elim (eqb_tells m m) [ inl x ↦ rw x.0 refl | inr x ↦ absurd (x.1 refl) ]

pub other_type : (n m : ℕ) (u : Ty) → n ≢ m → put_type (only_type m u) (Ty.meta n) ≡ Ty.meta n
other_type n m u h = elim (eqb_tells n m) [ inl x ↦ absurd (h x.1) | inr x ↦ rw x.0 refl ]

pub itself_term : (m : ℕ) (k : Ty) (u : Term) → put_term (only_term m k u) (Term.meta m k) ≡ u
itself_term m k u = elim (same_meta_tells m m k k) [ inl x ↦ rw x.0 refl | inr x ↦ absurd (x.1 refl) ]

pub other_term : (n m : ℕ) (t k : Ty) (u : Term) → Term.meta n t ≢ Term.meta m k → put_term (only_term m k u) (Term.meta n t) ≡ Term.meta n t
other_term n m t k u h = elim (same_meta_tells n m t k) [ inl x ↦ absurd (h x.1) | inr x ↦ rw x.0 refl ]

-- A property that the parts of the sides have is one of the right sides that are made.
use Rattle.std.proofs.Common.{ℕ, ◌==◌, ◌&&◌, Bool, true, false, if◌then◌else◌, List, [], ◌∷◌, subst}
use Rattle.zm_logic.specs.Tree.{Ty, Tys, Term, Terms}
use Rattle.zm_logic.specs.Same.{same_type}
use Rattle.unify.specs.Equation.{Equation, TypeParts, TermParts}
use Rattle.unify.specs.Binding.{Binding, if_type_meta, if_term_meta, head_type, head_term}
use Rattle.unify.specs.Unification.{Binds, Splits, Unifies}

-- each member has the property
abbrev pub EachType : (Ty → Type 0) → Tys → Type 0
EachType P Tys.none = Unit {0}
EachType P (Tys.more t ts) = P t × EachType P ts

abbrev pub EachTerm : (Term → Type 0) → Terms → Type 0
EachTerm Q Terms.none = Unit {0}
EachTerm Q (Terms.more u us) = Q u × EachTerm Q us

module _ (P : Ty → Type 0) (Q : Term → Type 0) where
  -- the sides of the equations, and the right sides of the bindings, have it
  abbrev pub Sides : List Equation → Type 0
  Sides [] = Unit {0}
  Sides (Equation.of_types s t ∷ es) = P s × P t × Sides es
  Sides (Equation.of_terms s t ∷ es) = Q s × Q t × Sides es

  abbrev pub RightSides : List Binding → Type 0
  RightSides [] = Unit {0}
  RightSides (Binding.of_type m u ∷ bs) = P u × RightSides bs
  RightSides (Binding.of_term m k u ∷ bs) = Q u × RightSides bs

  either : {A : Type 0} (R : A → Type 0) (b : Bool) (x y : A) → R x → R y → R (if b then x else y)
  either R true x y h k = h
  either R false x y h k = k

  at_type : (m : ℕ) (u s : Ty) → P u → P s → P (if_type_meta m u s)
  at_type m u (Ty.bound i) h k = k
  at_type m u (Ty.param n) h k = k
  at_type m u (Ty.con c ts) h k = k
  at_type m u (Ty.meta n) h k = either P (n == m) u (Ty.meta n) h k

  at_term : (m : ℕ) (j : Ty) (u s : Term) → Q u → Q s → Q (if_term_meta m j u s)
  at_term m j u (Term.bound i) h k = k
  at_term m j u (Term.eps n t) h k = k
  at_term m j u (Term.app f ts us) h k = k
  at_term m j u (Term.meta n t) h k = either Q ((n == m) && same_type t j) u (Term.meta n t) h k

  pub of_head_type : (bs : List Binding) → RightSides bs → (s : Ty) → P s → P (head_type bs s)
  of_head_type [] r s h = h
  of_head_type (Binding.of_type m u ∷ bs) r s h = at_type m u (head_type bs s) r.0 (of_head_type bs r.1 s h)
  of_head_type (Binding.of_term m k u ∷ bs) r s h = of_head_type bs r.1 s h

  pub of_head_term : (bs : List Binding) → RightSides bs → (s : Term) → Q s → Q (head_term bs s)
  of_head_term [] r s h = h
  of_head_term (Binding.of_type m u ∷ bs) r s h = of_head_term bs r.1 s h
  of_head_term (Binding.of_term m k u ∷ bs) r s h = at_term m k u (head_term bs s) r.0 (of_head_term bs r.1 s h)

  type_sides : {ss ts : Tys} {rest all : List Equation} → TypeParts ss ts rest all → EachType P ss → EachType P ts → Sides rest → Sides all
  type_sides (TypeParts.none) h k r = r
  type_sides (TypeParts.more p) h k r = (h.0, k.0, type_sides p h.1 k.1 r)

  term_sides : {ss ts : Terms} {rest all : List Equation} → TermParts ss ts rest all → EachTerm Q ss → EachTerm Q ts → Sides rest → Sides all
  term_sides (TermParts.none) h k r = r
  term_sides (TermParts.more p) h k r = (h.0, k.0, term_sides p h.1 k.1 r)

  module _ (types : (c : ℕ) (ts : Tys) → P (Ty.con c ts) → EachType P ts)
      (terms : (f : ℕ) (ts : Tys) (us : Terms) → Q (Term.app f ts us) → EachType P ts × EachTerm Q us) where
    bound_sides : (bs : List Binding) (es : List Equation) → RightSides bs → {e : Equation} {b : Binding} → Binds bs e b → Sides (e ∷ es) → RightSides (b ∷ bs)
    bound_sides bs es r (Binds.left_type {t = t} x o) h = (of_head_type bs r t h.1, r)
    bound_sides bs es r (Binds.right_type {s = s} n x o) h = (of_head_type bs r s h.0, r)
    bound_sides bs es r (Binds.left_term {t = t} x o) h = (of_head_term bs r t h.1, r)
    bound_sides bs es r (Binds.right_term {s = s} n x o) h = (of_head_term bs r s h.0, r)

    rest_sides : (e : Equation) (es : List Equation) → Sides (e ∷ es) → Sides es
    rest_sides (Equation.of_types s t) es h = h.2
    rest_sides (Equation.of_terms s t) es h = h.2

    split_sides : (bs : List Binding) → RightSides bs → {e : Equation} {es all : List Equation} → Splits bs e es all → Sides (e ∷ es) → Sides all
    split_sides bs r (Splits.types {s = s} {t = t} {c = c} {ss = ss} {ts = ts} x y p) h =
        type_sides p (types c ss (subst P x (of_head_type bs r s h.0))) (types c ts (subst P y (of_head_type bs r t h.1))) h.2
    split_sides bs r (Splits.terms {s = s} {t = t} {f = f} {ss = ss} {ts = ts} {us = us} {vs = vs} x y q p) h =
        let v = terms f ss us (subst Q x (of_head_term bs r s h.0)) in
        let w = terms f ts vs (subst Q y (of_head_term bs r t h.1)) in
        type_sides p v.0 w.0 (term_sides q v.1 w.1 h.2)

    pub right_sides : {bs cs : List Binding} {es : List Equation} → Unifies bs es cs → RightSides bs → Sides es → RightSides cs
    right_sides (Unifies.done) r h = r
    right_sides (Unifies.same {e = e} {es = es} x u) r h = right_sides u r (rest_sides e es h)
    right_sides (Unifies.binds {bs = bs} {e = e} {es = es} n x u) r h = right_sides u (bound_sides bs es r x h) (rest_sides e es h)
    right_sides (Unifies.splits {bs = bs} n x u) r h = right_sides u r (split_sides bs r x h)

-- Right sides, as they are made, are parts of the equations' sides.
use Rattle.std.proofs.Common.{ℕ, ◌≡◌, inl, inr, List, [], ◌∷◌, refl, subst}
use Rattle.zm_logic.specs.Tree.{Ty, Tys, Term, Terms}
use Rattle.unify.specs.Equation.{Equation}
use Rattle.unify.specs.Binding.{Binding}
use Rattle.unify.specs.Unification.{Unifies}
use Rattle.unify.specs.Part.{IsPartOfType, IsPartOfTypes, IsTypePartOfTerm, IsTypePartOfTerms, IsPartOfTerm, IsPartOfTerms, IsTypePart, IsTermPart, ArePartsOf}
use Rattle.unify.proofs.Closed.{EachType, EachTerm, Sides, RightSides, right_sides}

-- a tree is a part of itself
pub type_itself : (t : Ty) → IsPartOfType t t
type_itself (Ty.bound i) = refl
type_itself (Ty.param i) = refl
type_itself (Ty.meta i) = refl
type_itself (Ty.con c ts) = inl refl

pub term_itself : (t : Term) → IsPartOfTerm t t
term_itself (Term.bound i) = refl
term_itself (Term.eps i t) = refl
term_itself (Term.meta i t) = refl
term_itself (Term.app f ts us) = inl refl

-- parts of parts are parts
module _ (u : Ty) (c : ℕ) (ts : Tys) where
  mutual
    type_deeper : (t : Ty) → IsPartOfType (Ty.con c ts) t → IsPartOfTypes u ts → IsPartOfType u t
    type_deeper (Ty.bound i) h k = absurd (cc)
    type_deeper (Ty.param i) h k = absurd (cc)
    type_deeper (Ty.meta i) h k = absurd (cc)
    type_deeper (Ty.con d ss) (inl e) k = let f : ts ≡ ss = cc in inr (subst (IsPartOfTypes u) f k)
    type_deeper (Ty.con d ss) (inr h) k = inr (types_deeper ss h k)

    types_deeper : (ss : Tys) → IsPartOfTypes (Ty.con c ts) ss → IsPartOfTypes u ts → IsPartOfTypes u ss
    types_deeper Tys.none h k = absurd h
    types_deeper (Tys.more s ss) (inl h) k = inl (type_deeper s h k)
    types_deeper (Tys.more s ss) (inr h) k = inr (types_deeper ss h k)

  mutual
    term_type_deeper : (t : Term) → IsTypePartOfTerm (Ty.con c ts) t → IsPartOfTypes u ts → IsTypePartOfTerm u t
    term_type_deeper (Term.bound i) h k = absurd h
    term_type_deeper (Term.eps i t) h k = absurd h
    term_type_deeper (Term.meta i t) h k = absurd h
    term_type_deeper (Term.app f ss vs) (inl h) k = inl (types_deeper ss h k)
    term_type_deeper (Term.app f ss vs) (inr h) k = inr (terms_type_deeper vs h k)

    terms_type_deeper : (vs : Terms) → IsTypePartOfTerms (Ty.con c ts) vs → IsPartOfTypes u ts → IsTypePartOfTerms u vs
    terms_type_deeper Terms.none h k = absurd h
    terms_type_deeper (Terms.more v vs) (inl h) k = inl (term_type_deeper v h k)
    terms_type_deeper (Terms.more v vs) (inr h) k = inr (terms_type_deeper vs h k)

  types_part : (es : List Equation) → IsTypePart (Ty.con c ts) es → IsPartOfTypes u ts → IsTypePart u es
  types_part [] h k = absurd h
  types_part (Equation.of_types s t ∷ es) h k =
      elim h [ inl x ↦ inl (type_deeper s x k) | inr y ↦ elim y [ inl x ↦ inr (inl (type_deeper t x k)) | inr x ↦ inr (inr (types_part es x k)) ] ]
  types_part (Equation.of_terms s t ∷ es) h k =
      elim h [ inl x ↦ inl (term_type_deeper s x k) | inr y ↦ elim y [ inl x ↦ inr (inl (term_type_deeper t x k)) | inr x ↦ inr (inr (types_part es x k)) ] ]

module _ (f : ℕ) (ts : Tys) (us : Terms) where
  -- a type argument
  module _ (u : Ty) where
    mutual
      argument_type : (t : Term) → IsPartOfTerm (Term.app f ts us) t → IsPartOfTypes u ts → IsTypePartOfTerm u t
      argument_type (Term.bound i) h k = absurd (cc)
      argument_type (Term.eps i t) h k = absurd (cc)
      argument_type (Term.meta i t) h k = absurd (cc)
      argument_type (Term.app g ss vs) (inl e) k = let r : ts ≡ ss = cc in inl (subst (IsPartOfTypes u) r k)
      argument_type (Term.app g ss vs) (inr h) k = inr (argument_types vs h k)

      argument_types : (vs : Terms) → IsPartOfTerms (Term.app f ts us) vs → IsPartOfTypes u ts → IsTypePartOfTerms u vs
      argument_types Terms.none h k = absurd h
      argument_types (Terms.more v vs) (inl h) k = inl (argument_type v h k)
      argument_types (Terms.more v vs) (inr h) k = inr (argument_types vs h k)

    argument_type_part : (es : List Equation) → IsTermPart (Term.app f ts us) es → IsPartOfTypes u ts → IsTypePart u es
    argument_type_part [] h k = absurd h
    argument_type_part (Equation.of_types s t ∷ es) h k = inr (inr (argument_type_part es h k))
    argument_type_part (Equation.of_terms s t ∷ es) h k =
        elim h [ inl x ↦ inl (argument_type s x k) | inr y ↦ elim y [ inl x ↦ inr (inl (argument_type t x k)) | inr x ↦ inr (inr (argument_type_part es x k)) ] ]

  -- a term argument
  module _ (u : Term) where
    mutual
      term_deeper : (t : Term) → IsPartOfTerm (Term.app f ts us) t → IsPartOfTerms u us → IsPartOfTerm u t
      term_deeper (Term.bound i) h k = absurd (cc)
      term_deeper (Term.eps i t) h k = absurd (cc)
      term_deeper (Term.meta i t) h k = absurd (cc)
      term_deeper (Term.app g ss vs) (inl e) k = let r : us ≡ vs = cc in inr (subst (IsPartOfTerms u) r k)
      term_deeper (Term.app g ss vs) (inr h) k = inr (terms_deeper vs h k)

      terms_deeper : (vs : Terms) → IsPartOfTerms (Term.app f ts us) vs → IsPartOfTerms u us → IsPartOfTerms u vs
      terms_deeper Terms.none h k = absurd h
      terms_deeper (Terms.more v vs) (inl h) k = inl (term_deeper v h k)
      terms_deeper (Terms.more v vs) (inr h) k = inr (terms_deeper vs h k)

    terms_part : (es : List Equation) → IsTermPart (Term.app f ts us) es → IsPartOfTerms u us → IsTermPart u es
    terms_part [] h k = absurd h
    terms_part (Equation.of_types s t ∷ es) h k = terms_part es h k
    terms_part (Equation.of_terms s t ∷ es) h k =
        elim h [ inl x ↦ inl (term_deeper s x k) | inr y ↦ elim y [ inl x ↦ inr (inl (term_deeper t x k)) | inr x ↦ inr (inr (terms_part es x k)) ] ]

-- each member of a list is a part of it
each_type : (P : Ty → Type 0) (ts : Tys) → ((u : Ty) → IsPartOfTypes u ts → P u) → EachType P ts
each_type P Tys.none h = tt
each_type P (Tys.more t ts) h = (h t (inl (type_itself t)), each_type P ts (λ u p. h u (inr p)))

each_term : (P : Term → Type 0) (us : Terms) → ((u : Term) → IsPartOfTerms u us → P u) → EachTerm P us
each_term P Terms.none h = tt
each_term P (Terms.more u us) h = (h u (inl (term_itself u)), each_term P us (λ v p. h v (inr p)))

-- the sides of the equations are parts of them
module _ (all : List Equation) where
  abbrev P : Ty → Type 0
  P u = IsTypePart u all

  abbrev Q : Term → Type 0
  Q u = IsTermPart u all

  sides : (es : List Equation) → ((u : Ty) → IsTypePart u es → P u) → ((u : Term) → IsTermPart u es → Q u) → Sides P Q es
  sides [] h k = tt
  sides (Equation.of_types s t ∷ es) h k =
      (h s (inl (type_itself s)), h t (inr (inl (type_itself t))), sides es (λ u p. h u (inr (inr p))) k)
  sides (Equation.of_terms s t ∷ es) h k =
      (k s (inl (term_itself s)), k t (inr (inl (term_itself t))), sides es (λ u p. h u (inr (inr p))) (λ u p. k u (inr (inr p))))

  all_parts : (made : List Binding) → RightSides P Q made → ArePartsOf all made
  all_parts [] r = tt
  all_parts (Binding.of_type m u ∷ bs) r = (r.0, all_parts bs r.1)
  all_parts (Binding.of_term m k u ∷ bs) r = (r.0, all_parts bs r.1)

  pub made_parts : {made : List Binding} → Unifies [] all made → ArePartsOf all made
  made_parts {made = made} u =
      all_parts made (right_sides P Q
      (λ c ts h. each_type P ts (λ v p. types_part v c ts all h p))
      (λ f ts us h. (each_type P ts (λ v p. argument_type_part f ts us v all h p), each_term Q us (λ v p. terms_part f ts us v all h p)))
      u tt (sides all (λ v p. p) (λ v p. p)))

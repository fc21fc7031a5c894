-- Parts of trees: a tree itself, and the parts of its arguments. The type that a parameter carries is no part.
use Rattle.std.specs.Prelude.{◌≡◌, ◌⊎◌, List, [], ◌∷◌}
use Rattle.zm_logic.specs.Tree.{Ty, Tys, Term, Terms}
use Rattle.unify.specs.Equation.{Equation}
use Rattle.unify.specs.Binding.{Binding}

-- a type is a part of a type
abbrev mutual
  pub IsPartOfType : Ty → Ty → Type 0
  IsPartOfType u (Ty.bound i) = u ≡ Ty.bound i
  IsPartOfType u (Ty.param n) = u ≡ Ty.param n
  IsPartOfType u (Ty.meta n) = u ≡ Ty.meta n
  IsPartOfType u (Ty.con c ts) = (u ≡ Ty.con c ts) ⊎ IsPartOfTypes u ts

  pub IsPartOfTypes : Ty → Tys → Type 0
  IsPartOfTypes u Tys.none = ⊥
  IsPartOfTypes u (Tys.more t ts) = IsPartOfType u t ⊎ IsPartOfTypes u ts

-- a type is a part of a term
abbrev mutual
  pub IsTypePartOfTerm : Ty → Term → Type 0
  IsTypePartOfTerm u (Term.bound i) = ⊥
  IsTypePartOfTerm u (Term.eps n t) = ⊥
  IsTypePartOfTerm u (Term.meta n t) = ⊥
  IsTypePartOfTerm u (Term.app f ts vs) = IsPartOfTypes u ts ⊎ IsTypePartOfTerms u vs

  pub IsTypePartOfTerms : Ty → Terms → Type 0
  IsTypePartOfTerms u Terms.none = ⊥
  IsTypePartOfTerms u (Terms.more v vs) = IsTypePartOfTerm u v ⊎ IsTypePartOfTerms u vs

-- a term is a part of a term
abbrev mutual
  pub IsPartOfTerm : Term → Term → Type 0
  IsPartOfTerm u (Term.bound i) = u ≡ Term.bound i
  IsPartOfTerm u (Term.eps n t) = u ≡ Term.eps n t
  IsPartOfTerm u (Term.meta n t) = u ≡ Term.meta n t
  IsPartOfTerm u (Term.app f ts vs) = (u ≡ Term.app f ts vs) ⊎ IsPartOfTerms u vs

  pub IsPartOfTerms : Term → Terms → Type 0
  IsPartOfTerms u Terms.none = ⊥
  IsPartOfTerms u (Terms.more v vs) = IsPartOfTerm u v ⊎ IsPartOfTerms u vs

-- a type, and a term, is a part of a side of one of the equations
abbrev pub IsTypePart : Ty → List Equation → Type 0
IsTypePart u [] = ⊥
IsTypePart u (Equation.of_types s t ∷ es) = IsPartOfType u s ⊎ IsPartOfType u t ⊎ IsTypePart u es
IsTypePart u (Equation.of_terms s t ∷ es) = IsTypePartOfTerm u s ⊎ IsTypePartOfTerm u t ⊎ IsTypePart u es

abbrev pub IsTermPart : Term → List Equation → Type 0
IsTermPart u [] = ⊥
IsTermPart u (Equation.of_types s t ∷ es) = IsTermPart u es
IsTermPart u (Equation.of_terms s t ∷ es) = IsPartOfTerm u s ⊎ IsPartOfTerm u t ⊎ IsTermPart u es

-- each right side, as it was made, is a part of a side of one of the equations
abbrev pub ArePartsOf : List Equation → List Binding → Type 0
ArePartsOf es [] = Unit {0}
ArePartsOf es (Binding.of_type m u ∷ bs) = IsTypePart u es × ArePartsOf es bs
ArePartsOf es (Binding.of_term m k u ∷ bs) = IsTermPart u es × ArePartsOf es bs

-- The metavariables of trees, as variables that are still to be bound.
use Rattle.std.specs.Prelude.{ℕ, ◌==◌, ◌&&◌, ◌||◌, if◌then◌else◌, Bool, false, List, [], ◌∷◌, ◌++◌, length}
use Rattle.zm_logic.specs.Tree.{Ty, Tys, Term, Terms}
use Rattle.zm_logic.specs.Same.{same_type}
use Rattle.unify.specs.Equation.{Equation}
use Rattle.unify.specs.Binding.{Binding, solved_type, solved_term}

-- a metavariable over types, and one over terms of a type
pub data Variable : Type 0 where
  type : (number : ℕ) → Variable
  term : (number : ℕ) (of : Ty) → Variable

abbrev pub same_variable : Variable → Variable → Bool
same_variable (Variable.type n) (Variable.type m) = n == m
same_variable (Variable.term n t) (Variable.term m k) = (n == m) && same_type t k
same_variable _ _ = false

abbrev pub has_variable : List Variable → Variable → Bool
has_variable [] v = false
has_variable (w ∷ ws) v = same_variable v w || has_variable ws v

-- each variable of the list, once
abbrev pub distinct : List Variable → List Variable
distinct [] = []
distinct (v ∷ vs) = if has_variable vs v then distinct vs else v ∷ distinct vs

-- the metavariables of a tree
abbrev mutual
  pub type_metas : Ty → List Variable
  type_metas (Ty.bound i) = []
  type_metas (Ty.param n) = []
  type_metas (Ty.meta n) = Variable.type n ∷ []
  type_metas (Ty.con c ts) = types_metas ts

  pub types_metas : Tys → List Variable
  types_metas Tys.none = []
  types_metas (Tys.more t ts) = type_metas t ++ types_metas ts

abbrev mutual
  pub term_metas : Term → List Variable
  term_metas (Term.bound i) = []
  term_metas (Term.eps n t) = []
  term_metas (Term.meta n t) = Variable.term n t ∷ []
  term_metas (Term.app f ts us) = types_metas ts ++ terms_metas us

  pub terms_metas : Terms → List Variable
  terms_metas Terms.none = []
  terms_metas (Terms.more u us) = term_metas u ++ terms_metas us

-- the metavariables of the equations with all bindings put in
abbrev pub metas_under : List Binding → List Equation → List Variable
metas_under bs [] = []
metas_under bs (Equation.of_types s t ∷ es) = type_metas (solved_type bs s) ++ (type_metas (solved_type bs t) ++ metas_under bs es)
metas_under bs (Equation.of_terms s t ∷ es) = term_metas (solved_term bs s) ++ (term_metas (solved_term bs t) ++ metas_under bs es)

-- how many they are
abbrev pub unbound : List Binding → List Equation → ℕ
unbound bs es = length (distinct (metas_under bs es))

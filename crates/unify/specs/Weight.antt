-- The weight of a tree.
use Rattle.std.specs.Prelude.{ℕ, ◌+◌}
use Rattle.zm_logic.specs.Tree.{Ty, Tys, Term, Terms}

-- the number of constructors, a parameter counting one
abbrev mutual
  pub type_weight : Ty → ℕ
  type_weight (Ty.bound i) = 1
  type_weight (Ty.param n) = 1
  type_weight (Ty.meta n) = 1
  type_weight (Ty.con c ts) = 1 + types_weight ts

  pub types_weight : Tys → ℕ
  types_weight Tys.none = 0
  types_weight (Tys.more t ts) = type_weight t + types_weight ts

abbrev mutual
  pub term_weight : Term → ℕ
  term_weight (Term.bound i) = 1
  term_weight (Term.eps n t) = 1
  term_weight (Term.meta n t) = 1
  term_weight (Term.app f ts us) = 1 + (types_weight ts + terms_weight us)

  pub terms_weight : Terms → ℕ
  terms_weight Terms.none = 0
  terms_weight (Terms.more u us) = term_weight u + terms_weight us

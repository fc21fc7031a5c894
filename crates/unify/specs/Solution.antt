-- What it is that bindings solve equations, and that a substitution solves bindings.
use Rattle.std.specs.Prelude.{◌≡◌, List, [], ◌∷◌}
use Rattle.zm_logic.specs.Tree.{Form}
use Rattle.unify.specs.Substitution.{Substitution, put_type, put_term, put_form}
use Rattle.unify.specs.Equation.{Equation}
use Rattle.unify.specs.Binding.{Binding, solved_type, solved_term, unifier}

-- with all bindings put in, the two sides are one tree
abbrev pub IsSolved : List Binding → Equation → Type 0
IsSolved bs (Equation.of_types s t) = solved_type bs s ≡ solved_type bs t
IsSolved bs (Equation.of_terms s t) = solved_term bs s ≡ solved_term bs t

abbrev pub AreSolved : List Binding → List Equation → Type 0
AreSolved bs [] = Unit {0}
AreSolved bs (e ∷ es) = IsSolved bs e × AreSolved bs es

-- a formula with all bindings put in
abbrev pub solved_form : List Binding → Form → Form
solved_form bs f = put_form (unifier bs) f

-- the substitution solves each binding: it gives the metavariable what it gives the right side
abbrev pub Agrees : Substitution → List Binding → Type 0
Agrees a [] = Unit {0}
Agrees a (Binding.of_type m u ∷ bs) = (a.type m ≡ put_type a u) × Agrees a bs
Agrees a (Binding.of_term m k u ∷ bs) = (a.term m k ≡ put_term a u) × Agrees a bs

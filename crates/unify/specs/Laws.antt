-- What unification promises. Each statement is the contract of a function of the module laws.
use Rattle.std.specs.Prelude.{◌≡◌, ◌≢◌, ◌⊎◌, ◌↔◌, List, [], ◌∷◌}
use Rattle.zm_logic.specs.Tree.{Ty, Term, Form}
use Rattle.unify.specs.Substitution.{Substitution, put_type, put_term, put_form}
use Rattle.unify.specs.Equation.{Equation, SolvesAll}
use Rattle.unify.specs.Binding.{Binding, solved_type, solved_term}
use Rattle.unify.specs.Solution.{IsSolved, AreSolved, Agrees, solved_form}
use Rattle.unify.specs.Unification.{Unifies, UnifiesForms, AreAtomsOrEqualities}
use Rattle.unify.specs.Part.{ArePartsOf}

-- the bindings that equations give solve them
abbrev pub BindingsSolve : Type 0
BindingsSolve = (es : List Equation) (made : List Binding) → Unifies [] es made → AreSolved made es

-- they are the most general that do: a substitution that solves the equations solves the bindings
abbrev pub BindingsAreMostGeneral : Type 0
BindingsAreMostGeneral =
    (es : List Equation) (made : List Binding) → Unifies [] es made → (a : Substitution) → SolvesAll a es → Agrees a made

-- so each solution is an instance of them: it takes no notice of bindings that are put in before
abbrev pub SolutionsAreInstances : Type 0
SolutionsAreInstances =
    (es : List Equation) (made : List Binding) → Unifies [] es made → (a : Substitution) → SolvesAll a es
    → ((t : Ty) → put_type a (solved_type made t) ≡ put_type a t) × ((t : Term) → put_term a (solved_term made t) ≡ put_term a t)

-- equations give bindings, or they have no solution
abbrev pub BindingsOrNoSolution : Type 0
BindingsOrNoSolution =
    (es : List Equation) → ((made : List Binding) × Unifies [] es made) ⊎ ((a : Substitution) → SolvesAll a es → ⊥)

-- and they give bindings exactly where they have a solution
abbrev pub BindingsWhereSolvable : Type 0
BindingsWhereSolvable =
    (es : List Equation) → ((made : List Binding) × Unifies [] es made) ↔ ((a : Substitution) × SolvesAll a es)

-- equations determine their bindings
abbrev pub BindingsAreDetermined : Type 0
BindingsAreDetermined =
    (bs : List Binding) (es : List Equation) (made also : List Binding) → Unifies bs es made → Unifies bs es also → made ≡ also

-- an equation that holds under the bindings made before it may be dropped: it adds none
abbrev pub SolvedEquationsAddNothing : Type 0
SolvedEquationsAddNothing =
    (es : List Equation) (bs : List Binding) (e : Equation) (rest : List Equation) (made : List Binding)
    → Unifies [] es bs → IsSolved bs e → Unifies bs (e ∷ rest) made ↔ Unifies bs rest made

-- each right side, as it was made, is a part of a side of an equation
abbrev pub RightSidesAreParts : Type 0
RightSidesAreParts = (es : List Equation) (made : List Binding) → Unifies [] es made → ArePartsOf es made

-- all bindings are put in at once: putting them in again changes nothing
abbrev pub SolvedTreesAreSolved : Type 0
SolvedTreesAreSolved =
    (es : List Equation) (made : List Binding) → Unifies [] es made
    → ((t : Ty) → solved_type made (solved_type made t) ≡ solved_type made t) × ((t : Term) → solved_term made (solved_term made t) ≡ solved_term made t)

-- the same for two atoms, and for two equalities: the bindings make them one formula
abbrev pub FormsAreUnified : Type 0
FormsAreUnified = (f g : Form) (made : List Binding) → UnifiesForms f g made → solved_form made f ≡ solved_form made g

-- a substitution that makes them one formula solves the bindings
abbrev pub UnifiersOfFormsAreMostGeneral : Type 0
UnifiersOfFormsAreMostGeneral =
    (f g : Form) (made : List Binding) → UnifiesForms f g made → (a : Substitution) → put_form a f ≡ put_form a g → Agrees a made

-- they have bindings, or no substitution makes them one formula
abbrev pub UnifierOfFormsOrNone : Type 0
UnifierOfFormsOrNone =
    (f g : Form) → AreAtomsOrEqualities f g
    → ((made : List Binding) × UnifiesForms f g made) ⊎ ((a : Substitution) → put_form a f ≢ put_form a g)

-- and they determine their bindings
abbrev pub UnifiersOfFormsAreDetermined : Type 0
UnifiersOfFormsAreDetermined = (f g : Form) (made also : List Binding) → UnifiesForms f g made → UnifiesForms f g also → made ≡ also

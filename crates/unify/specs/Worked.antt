-- Worked examples. Each statement is the contract of a function of the module laws.
use Rattle.std.specs.Prelude.{ℕ, ◌≡◌, List, [], ◌∷◌}
use Rattle.zm_logic.specs.Tree.{Ty, Tys, Term, Terms, Form}
use Rattle.unify.specs.Binding.{Binding, solved_term}
use Rattle.unify.specs.Unification.{UnifiesTerms, UnifiesForms}

-- the type of individuals, the metavariables over it, and applications
abbrev pub individual : Ty
individual = Ty.con 0 Tys.none

abbrev pub variable : ℕ → Term
variable n = Term.meta n individual

abbrev pub constant : ℕ → Term
constant f = Term.app f Tys.none Terms.none

abbrev pub one : ℕ → Term → Term
one f u = Term.app f Tys.none (Terms.more u Terms.none)

abbrev pub two : ℕ → Term → Term → Term
two f u v = Term.app f Tys.none (Terms.more u (Terms.more v Terms.none))

-- f(m0, m0) and f(m1, a): m0 is bound to m1, and then m1, for which m0 stands, to a
abbrev pub RepeatedMetavariable : Type 0
RepeatedMetavariable =
    UnifiesTerms (two 1 (variable 0) (variable 0)) (two 1 (variable 1) (constant 2))
    (Binding.of_term 1 individual (constant 2) ∷ Binding.of_term 0 individual (variable 1) ∷ [])

-- f(m0, m1) and f(g(m1), g(m0)): m1 isn't bound to g(m0), which is g(g(m1)) under the binding of m0
abbrev pub CircularBindings : Type 0
CircularBindings =
    (made : List Binding)
    → UnifiesTerms (two 1 (variable 0) (variable 1)) (two 1 (one 3 (variable 1)) (one 3 (variable 0))) made → ⊥

-- two constants
abbrev pub Clash : Type 0
Clash = (made : List Binding) → UnifiesTerms (constant 1) (constant 2) made → ⊥

-- r(A0, m2) and r($i, h(A0, m1)), where m1 has the type A0: types come before terms. The type metavariable A0 is bound
-- to $i, and m2 to h(A0, m1). Solved, that is h($i, m1): nothing is put into the type that m1 carries.
abbrev pub inner : Ty → Term
inner t = Term.app 2 (Tys.more t Tys.none) (Terms.more (Term.meta 1 (Ty.meta 0)) Terms.none)

abbrev pub polymorphic : List Binding
polymorphic = Binding.of_term 2 individual (inner (Ty.meta 0)) ∷ Binding.of_type 0 individual ∷ []

abbrev pub TypesBeforeTerms : Type 0
TypesBeforeTerms =
    UnifiesForms (Form.atom 1 (Tys.more (Ty.meta 0) Tys.none) (Terms.more (variable 2) Terms.none))
    (Form.atom 1 (Tys.more individual Tys.none) (Terms.more (inner (Ty.meta 0)) Terms.none)) polymorphic

abbrev pub CarriedTypesStay : Type 0
CarriedTypesStay = solved_term polymorphic (variable 2) ≡ inner individual

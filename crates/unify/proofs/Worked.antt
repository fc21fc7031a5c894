-- The worked examples.
use Rattle.std.proofs.Common.{◌≡◌, refl, ap, arith}
use Rattle.unify.specs.Weight.{term_weight}
use Rattle.unify.specs.Equation.{Equation, TypeParts, TermParts, FormParts}
use Rattle.unify.specs.Binding.{unifier}
use Rattle.unify.specs.Unification.{Binds, Splits, Unifies}
use Rattle.unify.specs.Worked as worked
use Rattle.unify.proofs.General.{solved_all}
use Rattle.unify.proofs.Unifier.{solves_solved}

pub repeated : worked.RepeatedMetavariable
repeated =
    Unifies.splits (λ e. cc) (Splits.terms refl refl (TermParts.more (TermParts.more TermParts.none)) TypeParts.none)
    (Unifies.binds (λ e. cc) (Binds.left_term refl (λ e. cc))
    (Unifies.binds (λ e. cc) (Binds.left_term refl tt)
    Unifies.done))

pub types_first : worked.TypesBeforeTerms
types_first = (
  _,
  FormParts.atoms (TermParts.more TermParts.none) (TypeParts.more TypeParts.none),
  Unifies.binds (λ e. cc) (Binds.left_type refl tt) (Unifies.binds (λ e. cc) (Binds.left_term refl ((λ e. cc), tt)) Unifies.done),
)

pub carried_types_stay : worked.CarriedTypesStay
carried_types_stay = refl

pub clash : worked.Clash
clash made (Unifies.same x u) = cc
clash made (Unifies.binds n (Binds.left_term x o) u) = cc
clash made (Unifies.binds n (Binds.right_term m x o) u) = cc
clash made (Unifies.splits n (Splits.terms x y p q) u) = cc

-- each of the two would weigh more than the other
pub circular : worked.CircularBindings
circular made u =
    let left = worked.two 1 (worked.variable 0) (worked.variable 1) in
    let right = worked.two 1 (worked.one 3 (worked.variable 1)) (worked.one 3 (worked.variable 0)) in
    let h = solves_solved made (Equation.of_terms left right) (solved_all u tt).0 in
    let x = (unifier made).term 0 worked.individual in
    let y = (unifier made).term 1 worked.individual in
    let e : x ≡ worked.one 3 y = cc in
    let f : y ≡ worked.one 3 x = cc in
    let v = ap term_weight e in let w = ap term_weight f in
    absurd (omega (arith, v, w))

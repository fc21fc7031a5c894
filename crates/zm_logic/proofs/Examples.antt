-- Worked derivations: the definitions are inhabited.
use Rattle.std.proofs.Common.{ℕ, List, [], ◌∷◌, refl, arith}
use Rattle.zm_logic.specs.Tree.{Ty, Tys, Term, Terms, Form, Symbol, both, implies, for_all, exists_types, for_all_types}
use Rattle.zm_logic.specs.Opening.{at_type}
use Rattle.zm_logic.specs.Parameter.{IsFreshForAll}
use Rattle.zm_logic.specs.Typing.{IsType, WellTyped, individual, individuals}
use Rattle.zm_logic.specs.Rewriting.{Fit, Step, Congruent}
use Rattle.zm_logic.specs.Calculus.{Derives}
use Rattle.zm_logic.specs.Laws as laws
use Rattle.zm_logic.proofs.Each.{some_fresh}

pub contradictions : laws.ContradictionsAreRefuted
contradictions symbols rules f gamma = Derives.closes f (0, omega arith, refl) (1, omega arith, refl)

pub peirce : laws.PeirceIsDerived
peirce symbols rules a b =
    Derives.not_implies (implies (implies a b) a) a (0, omega arith, refl)
    (Derives.implication (implies a b) a (0, omega arith, refl)
    (Derives.not_implies a b (0, omega arith, refl) (Derives.closes a (0, omega arith, refl) (4, omega arith, refl)))
    (Derives.closes a (0, omega arith, refl) (2, omega arith, refl)))

-- somebody drinks; everyone does; if somebody does, everyone does
abbrev drinks : ℕ → Term → Form
drinks r u = Form.atom r Tys.none (Terms.more u Terms.none)

abbrev everyone : ℕ → Form
everyone r = for_all individual (drinks r (Term.bound 0))

abbrev each_if_one : ℕ → Form
each_if_one r = implies (drinks r (Term.bound 0)) (everyone r)

is_individual : (symbols : List Symbol) → IsType symbols 0 individual
is_individual symbols = ((individuals, (refl, refl), refl), tt)

abbrev one : Term
one = Term.eps 1 individual

abbrev some : Term
some = Term.meta 0 individual

pub drinkers : laws.DrinkerIsDerived
drinkers symbols rules r =
    Derives.not_exists individual (each_if_one r) some (0, omega arith, refl) (is_individual symbols, refl)
    (Derives.not_implies (drinks r some) (everyone r) (0, omega arith, refl)
    (Derives.not_for_all individual (drinks r (Term.bound 0)) 1 (1, omega arith, refl) fresh
    (Derives.not_exists individual (each_if_one r) one (4, omega arith, refl) (is_individual symbols, refl)
    (Derives.not_implies (drinks r one) (everyone r) (0, omega arith, refl) (Derives.closes (drinks r one) (0, omega arith, refl) (3, omega arith, refl))))))
  where
    fresh : IsFreshForAll 1
        (drinks r some ∷ Form.negation (everyone r) ∷ Form.negation (implies (drinks r some) (everyone r)) ∷ Form.negation (laws.drinker r) ∷ [])
    fresh =
        ((tt, ((λ e. cc, tt), tt)), ((tt, (tt, (tt, tt))), (((tt, ((λ e. cc, tt), tt)), (tt, (tt, (tt, tt)))), ((tt, ((tt, (tt, tt)), (tt, (tt, (tt, tt))))), tt))))

-- the same over types
abbrev type_drinks : ℕ → Ty → Form
type_drinks r t = Form.atom r (Tys.more t Tys.none) Terms.none

abbrev every_type : ℕ → Form
every_type r = for_all_types (type_drinks r (Ty.bound 0))

abbrev every_type_if_one : ℕ → Form
every_type_if_one r = implies (type_drinks r (Ty.bound 0)) (every_type r)

pub drinkers_over_types : laws.DrinkerOverTypesIsDerived
drinkers_over_types symbols rules r =
    Derives.not_exists_types (every_type_if_one r) (Ty.meta 0) (0, omega arith, refl) tt
    (Derives.not_implies (type_drinks r (Ty.meta 0)) (every_type r) (0, omega arith, refl)
    (Derives.not_for_all_types (type_drinks r (Ty.bound 0)) 1 (1, omega arith, refl) fresh
    (Derives.not_exists_types (every_type_if_one r) (Ty.param 1) (4, omega arith, refl) tt
    (Derives.not_implies (type_drinks r (Ty.param 1)) (every_type r) (0, omega arith, refl)
    (Derives.closes (type_drinks r (Ty.param 1)) (0, omega arith, refl) (3, omega arith, refl))))))
  where
    fresh : IsFreshForAll 1
        (type_drinks r (Ty.meta 0) ∷ Form.negation (every_type r) ∷ Form.negation (implies (type_drinks r (Ty.meta 0)) (every_type r))
        ∷ Form.negation (laws.drinker_over_types r) ∷ [])
    fresh =
        (((λ e. cc, tt), tt), (((tt, tt), tt), ((((λ e. cc, tt), tt), ((tt, tt), tt)), ((((tt, tt), tt), ((tt, tt), tt)), tt))))

-- each direction opens one side at a fresh type parameter, and puts the parameter into the other
pub type_quantifiers_dual : laws.TypeQuantifiersAreDual
type_quantifiers_dual symbols rules f =
    let n = some_fresh f in
    let none = for_all_types (Form.negation f) in
    Derives.not_iff (exists_types f) (Form.negation none) (0, omega arith, refl)
    (Derives.existential_types f n.0 (0, omega arith, refl) (n.1, (n.1, ((n.1, n.1), tt)))
    (Derives.not_not none (2, omega arith, refl)
    (Derives.universal_types (Form.negation f) (Ty.param n.0) (0, omega arith, refl) tt
    (Derives.closes (at_type f (Ty.param n.0)) (2, omega arith, refl) (0, omega arith, refl)))))
    (Derives.not_for_all_types (Form.negation f) n.0 (1, omega arith, refl) (n.1, (n.1, ((n.1, n.1), tt)))
    (Derives.not_not (at_type f (Ty.param n.0)) (0, omega arith, refl)
    (Derives.not_exists_types f (Ty.param n.0) (2, omega arith, refl) tt
    (Derives.closes (at_type f (Ty.param n.0)) (1, omega arith, refl) (0, omega arith, refl)))))

pub symmetry : laws.SymmetryIsDerived
symmetry symbols rules t a b =
    Derives.not_implies (Form.equal t a b) (Form.equal t b a) (0, omega arith, refl)
    (Derives.symmetric t a b (0, omega arith, refl) (1, omega arith, refl))

pub transitivity : laws.TransitivityIsDerived
transitivity symbols rules t a b c =
    Derives.not_implies (both (Form.equal t a b) (Form.equal t b c)) (Form.equal t a c) (0, omega arith, refl)
    (Derives.conjunction (Form.equal t a b) (Form.equal t b c) (0, omega arith, refl)
    (Derives.transitive_first t a b a c (0, omega arith, refl) (3, omega arith, refl)
    (Derives.reflexive t a (0, omega arith, refl))
    (Derives.closes (Form.equal t b c) (2, omega arith, refl) (0, omega arith, refl))))

p_is_typed : WellTyped laws.p_and_q laws.p
p_is_typed = WellTyped.atom (laws.proposition, (refl, refl), refl, tt, tt)

q_is_typed : WellTyped laws.p_and_q laws.q
q_is_typed = WellTyped.atom (_, (refl, refl), refl, tt, tt)

p_steps : Step laws.p_to_q laws.p laws.q
p_steps = Step.here (_, (0, omega arith, refl), ([], Fit.none, refl, refl))

pub negations_are_congruent : laws.RulesMakeCongruent
negations_are_congruent = Congruent.forward (WellTyped.negation p_is_typed) (Step.negation p_steps) (Congruent.same (WellTyped.negation q_is_typed))

pub rules_refute : laws.RulesRefute
rules_refute =
    Derives.conversion laws.p laws.q (0, omega arith, refl) (Congruent.forward p_is_typed p_steps (Congruent.same q_is_typed))
    (Derives.closes laws.q (0, omega arith, refl) (2, omega arith, refl))

-- The theorem: equations have a most general solution, given by their bindings, or none.
use Rattle.std.proofs.Common.{◌≡◌, ◌+◌, ◌⊎◌, inl, inr, List, [], ◌∷◌, ◌++◌, length, refl, arith}
use Rattle.zm_logic.specs.Tree.{Ty, Tys, Term, Terms}
use Rattle.unify.specs.Metas.{Variable, type_metas, types_metas, term_metas, terms_metas}
use Rattle.unify.specs.Substitution.{Substitution, put_type, put_term}
use Rattle.unify.specs.Equation.{Equation, SolvesAll}
use Rattle.unify.specs.Binding.{Binding, solved_type, solved_term}
use Rattle.unify.specs.Unification.{Unifies}
use Rattle.unify.specs.Solution.{AreSolved}
use Rattle.unify.proofs.Solved.{agrees_type, agrees_term}
use Rattle.unify.proofs.General.{solved_all, most_general}
use Rattle.unify.proofs.Measure.{Among, TypeIn, TypesIn, TermIn, TermsIn}
use Rattle.unify.proofs.End.{IsIn, AreIn, unifies_or_not}

abbrev equation_metas : Equation → List Variable
equation_metas (Equation.of_types s t) = type_metas s ++ type_metas t
equation_metas (Equation.of_terms s t) = term_metas s ++ term_metas t

abbrev all_metas : List Equation → List Variable
all_metas [] = []
all_metas (e ∷ es) = equation_metas e ++ all_metas es

pub among_first : (v : Variable) (xs ys : List Variable) → Among v xs → Among v (xs ++ ys)
among_first v [] ys h = absurd h
among_first v (x ∷ xs) ys (inl e) = inl e
among_first v (x ∷ xs) ys (inr h) = inr (among_first v xs ys h)

pub among_later : (v : Variable) (xs ys : List Variable) → Among v ys → Among v (xs ++ ys)
among_later v [] ys h = h
among_later v (x ∷ xs) ys h = inr (among_later v xs ys h)

module _ (vs : List Variable) where
  mutual
    pub type_in : (t : Ty) → ((v : Variable) → Among v (type_metas t) → Among v vs) → TypeIn vs t
    type_in (Ty.bound i) h = tt
    type_in (Ty.param n) h = tt
    type_in (Ty.meta n) h = h (Variable.type n) (inl refl)
    type_in (Ty.con c ts) h = types_in ts h

    types_in : (ts : Tys) → ((v : Variable) → Among v (types_metas ts) → Among v vs) → TypesIn vs ts
    types_in Tys.none h = tt
    types_in (Tys.more t ts) h = (type_in t (λ v a. h v (among_first v (type_metas t) (types_metas ts) a)), types_in ts (λ v a. h v (among_later v (type_metas t) (types_metas ts) a)))

  mutual
    pub term_in : (t : Term) → ((v : Variable) → Among v (term_metas t) → Among v vs) → TermIn vs t
    term_in (Term.bound i) h = tt
    term_in (Term.eps n t) h = tt
    term_in (Term.meta n t) h = h (Variable.term n t) (inl refl)
    term_in (Term.app f ts us) h = (types_in ts (λ v a. h v (among_first v (types_metas ts) (terms_metas us) a)), terms_in us (λ v a. h v (among_later v (types_metas ts) (terms_metas us) a)))

    terms_in : (ts : Terms) → ((v : Variable) → Among v (terms_metas ts) → Among v vs) → TermsIn vs ts
    terms_in Terms.none h = tt
    terms_in (Terms.more t ts) h = (term_in t (λ v a. h v (among_first v (term_metas t) (terms_metas ts) a)), terms_in ts (λ v a. h v (among_later v (term_metas t) (terms_metas ts) a)))

  equation_in : (e : Equation) → ((v : Variable) → Among v (equation_metas e) → Among v vs) → IsIn vs [] e
  equation_in (Equation.of_types s t) h = (type_in s (λ v a. h v (among_first v (type_metas s) (type_metas t) a)), type_in t (λ v a. h v (among_later v (type_metas s) (type_metas t) a)))
  equation_in (Equation.of_terms s t) h = (term_in s (λ v a. h v (among_first v (term_metas s) (term_metas t) a)), term_in t (λ v a. h v (among_later v (term_metas s) (term_metas t) a)))

  all_in : (es : List Equation) → ((v : Variable) → Among v (all_metas es) → Among v vs) → AreIn vs [] es
  all_in [] h = tt
  all_in (e ∷ es) h = (equation_in e (λ v a. h v (among_first v (equation_metas e) (all_metas es) a)), all_in es (λ v a. h v (among_later v (equation_metas e) (all_metas es) a)))

-- the bindings solve the equations, and every solution is an instance of them
pub record IsMostGeneral (es : List Equation) (cs : List Binding) : Type 0 where
  pub solves : AreSolved cs es
  pub types : (a : Substitution) → SolvesAll a es → (t : Ty) → put_type a (solved_type cs t) ≡ put_type a t
  pub terms : (a : Substitution) → SolvesAll a es → (t : Term) → put_term a (solved_term cs t) ≡ put_term a t

pub is_most_general : {es : List Equation} {cs : List Binding} → Unifies [] es cs → IsMostGeneral es cs
is_most_general {cs = cs} u = record {
  solves = solved_all u tt;
  types = λ a z t. agrees_type a cs (most_general u tt a tt z) t;
  terms = λ a z t. agrees_term a cs (most_general u tt a tt z) t;
}

pub mgu_or_none : (es : List Equation) → ((cs : List Binding) × Unifies [] es cs × IsMostGeneral es cs) ⊎ ((a : Substitution) → SolvesAll a es → ⊥)
mgu_or_none es =
    let vs = all_metas es in
    elim (unifies_or_not (length vs + 1) vs [] es (omega arith) tt (all_in vs es (λ v a. a))) [
      | inl r ↦ inl (r.0, r.1, is_most_general r.1)
      | inr r ↦ inr (λ a z. r a tt z)
    ]

-- The bindings as a substitution: it solves them, and so whatever is equal under them is solved by it.
use Rattle.std.proofs.Common.{◌≡◌, List, [], ◌∷◌, refl, ap, sym, ◌∙◌}
use Rattle.zm_logic.specs.Tree.{Ty, Tys, Term, Terms}
use Rattle.unify.specs.Lawful.{AreLawful}
use Rattle.unify.specs.Substitution.{put_type, put_types, put_term, put_terms}
use Rattle.unify.specs.Equation.{Equation, Solves, SolvesAll}
use Rattle.unify.specs.Binding.{Binding, solved_type, solved_term, unifier}
use Rattle.unify.specs.Solution.{IsSolved, AreSolved, Agrees}
use Rattle.unify.proofs.Solved.{solved_types, solved_terms, solved_con, solved_more, solved_app, solved_more_term, joined_type, joined_term}
use Rattle.unify.proofs.General.{one_more}
use Rattle.unify.proofs.Total.{solved_bound, solved_param, solved_none, solved_bound_term, solved_eps, solved_no_term}

-- putting the unifier in is putting all bindings in
module _ (bs : List Binding) where
  mutual
    pub put_unifier_type : (t : Ty) → put_type (unifier bs) t ≡ solved_type bs t
    put_unifier_type (Ty.bound i) = sym (solved_bound bs i)
    put_unifier_type (Ty.param n) = sym (solved_param bs n)
    put_unifier_type (Ty.meta n) = refl
    put_unifier_type (Ty.con c ts) = ap (Ty.con c) (put_unifier_types ts) ∙ sym (solved_con bs c ts)

    pub put_unifier_types : (ts : Tys) → put_types (unifier bs) ts ≡ solved_types bs ts
    put_unifier_types Tys.none = sym (solved_none bs)
    put_unifier_types (Tys.more t ts) =
        let x = put_unifier_type t in let y = put_unifier_types ts in let z = solved_more bs t ts in cc

  mutual
    pub put_unifier_term : (t : Term) → put_term (unifier bs) t ≡ solved_term bs t
    put_unifier_term (Term.bound i) = sym (solved_bound_term bs i)
    put_unifier_term (Term.eps n t) = sym (solved_eps bs n t)
    put_unifier_term (Term.meta n t) = refl
    put_unifier_term (Term.app f ts us) =
        let x = put_unifier_types ts in let y = put_unifier_terms us in let z = solved_app bs f ts us in cc

    pub put_unifier_terms : (ts : Terms) → put_terms (unifier bs) ts ≡ solved_terms bs ts
    put_unifier_terms Terms.none = sym (solved_no_term bs)
    put_unifier_terms (Terms.more t ts) =
        let x = put_unifier_term t in let y = put_unifier_terms ts in let z = solved_more_term bs t ts in cc

  pub solves_solved : (e : Equation) → IsSolved bs e → Solves (unifier bs) e
  solves_solved (Equation.of_types s t) h = put_unifier_type s ∙ h ∙ sym (put_unifier_type t)
  solves_solved (Equation.of_terms s t) h = put_unifier_term s ∙ h ∙ sym (put_unifier_term t)

  pub solves_all_solved : (es : List Equation) → AreSolved bs es → SolvesAll (unifier bs) es
  solves_all_solved [] h = tt
  solves_all_solved (e ∷ es) h = (solves_solved e h.0, solves_all_solved es h.1)

-- the bindings as equations between their sides
abbrev equation_of : Binding → Equation
equation_of (Binding.of_type m u) = Equation.of_types (Ty.meta m) u
equation_of (Binding.of_term m k u) = Equation.of_terms (Term.meta m k) u

abbrev equations_of : List Binding → List Equation
equations_of [] = []
equations_of (b ∷ bs) = equation_of b ∷ equations_of bs

all_more : (b : Binding) (bs : List Binding) (es : List Equation) → AreSolved bs es → AreSolved (b ∷ bs) es
all_more b bs [] h = tt
all_more b bs (e ∷ es) h = (one_more b bs e h.0, all_more b bs es h.1)

bindings_solved : (bs : List Binding) → AreLawful bs → AreSolved bs (equations_of bs)
bindings_solved [] l = tt
bindings_solved (Binding.of_type m u ∷ bs) l =
    (joined_type bs m u l.0 l.1, all_more (Binding.of_type m u) bs (equations_of bs) (bindings_solved bs l.3))
bindings_solved (Binding.of_term m k u ∷ bs) l =
    (joined_term bs m k u l.0 l.1, all_more (Binding.of_term m k u) bs (equations_of bs) (bindings_solved bs l.3))

agrees_solved : (cs bs : List Binding) → AreSolved cs (equations_of bs) → Agrees (unifier cs) bs
agrees_solved cs [] h = tt
agrees_solved cs (Binding.of_type m u ∷ bs) h = (h.0 ∙ sym (put_unifier_type cs u), agrees_solved cs bs h.1)
agrees_solved cs (Binding.of_term m k u ∷ bs) h = (h.0 ∙ sym (put_unifier_term cs u), agrees_solved cs bs h.1)

-- the unifier solves the bindings
pub unifier_agrees : (bs : List Binding) → AreLawful bs → Agrees (unifier bs) bs
unifier_agrees bs l = agrees_solved bs bs (bindings_solved bs l)

-- Equations between types and between terms, and the equations between the parts of two trees.
use Rattle.std.specs.Prelude.{ℕ, ◌≡◌, List, [], ◌∷◌}
use Rattle.zm_logic.specs.Tree.{Ty, Tys, Term, Terms, Form}
use Rattle.unify.specs.Substitution.{Substitution, put_type, put_term}

-- two sides that are to become equal
pub data Equation : Type 0 where
  of_types : (left right : Ty) → Equation
  of_terms : (left right : Term) → Equation

-- the substitution makes both sides one tree
abbrev pub Solves : Substitution → Equation → Type 0
Solves a (Equation.of_types s t) = put_type a s ≡ put_type a t
Solves a (Equation.of_terms s t) = put_term a s ≡ put_term a t

abbrev pub SolvesAll : Substitution → List Equation → Type 0
SolvesAll a [] = Unit {0}
SolvesAll a (e ∷ es) = Solves a e × SolvesAll a es

-- the equations between the members of two lists of one length, from left to right, and then the rest
pub data TypeParts : Tys → Tys → List Equation → List Equation → Type 0 where
  none : {rest : List Equation} → TypeParts Tys.none Tys.none rest rest
  more : {s t : Ty} {ss ts : Tys} {rest all : List Equation}
      → TypeParts ss ts rest all → TypeParts (Tys.more s ss) (Tys.more t ts) rest (Equation.of_types s t ∷ all)

pub data TermParts : Terms → Terms → List Equation → List Equation → Type 0 where
  none : {rest : List Equation} → TermParts Terms.none Terms.none rest rest
  more : {s t : Term} {ss ts : Terms} {rest all : List Equation}
      → TermParts ss ts rest all → TermParts (Terms.more s ss) (Terms.more t ts) rest (Equation.of_terms s t ∷ all)

-- the equations between the parts of two atoms with one symbol, types before terms, and of two equalities: type, left
-- sides, right sides
pub data FormParts : Form → Form → List Equation → Type 0 where
  atoms : {p : ℕ} {ss ts : Tys} {us vs : Terms} {middle all : List Equation}
      → TermParts us vs [] middle → TypeParts ss ts middle all → FormParts (Form.atom p ss us) (Form.atom p ts vs) all
  equalities : {s t : Ty} {a b c d : Term}
      → FormParts (Form.equal s a b) (Form.equal t c d)
      (Equation.of_types s t ∷ Equation.of_terms a c ∷ Equation.of_terms b d ∷ [])

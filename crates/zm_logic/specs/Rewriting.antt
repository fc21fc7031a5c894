-- Rewriting by a list of rules: steps, and the congruence that they make.
-- A place under a binder is opened with a parameter whose number is fresh on both sides of the step.
use Rattle.std.specs.Prelude.{ℕ, ◌≡◌, List, [], ◌∷◌}
use Rattle.std.specs.List.{Contains}
use Rattle.zm_logic.specs.Tree.{Ty, Tys, Term, Terms, Form, Connective, Quantifier, Rule, Side, Binder, Opening, Symbol}
use Rattle.zm_logic.specs.Opening.{side_instance, at_term, at_type}
use Rattle.zm_logic.specs.Parameter.{IsFresh}
use Rattle.zm_logic.specs.Index.{IsClosedType, IsClosedTerm}
use Rattle.zm_logic.specs.Typing.{WellTyped}

-- each part is of its binder's kind and has no loose index
pub data Fit : List Opening → List Binder → Type 0 where
  none : Fit [] []
  a_type : {t : Ty} {os : List Opening} {bs : List Binder} → IsClosedType 0 t → Fit os bs
      → Fit (Opening.of_type t ∷ os) (Binder.of_type ∷ bs)
  a_term : {u : Term} {t : Ty} {os : List Opening} {bs : List Binder} → IsClosedTerm 0 u → Fit os bs
      → Fit (Opening.of_term u ∷ os) (Binder.of_term t ∷ bs)

-- x is an instance of the rule's left side
abbrev pub IsRedex : Rule → Side → Type 0
IsRedex r x = (parts : List Opening) × Fit parts r.binders × (side_instance parts r.left ≡ x)

-- x is an instance of the rule's left side, and y the same instance of its right side
abbrev pub Rewrites : Rule → Side → Side → Type 0
Rewrites r x y =
    (parts : List Opening) × Fit parts r.binders × (side_instance parts r.left ≡ x) × (side_instance parts r.right ≡ y)

module _ (rules : List Rule) where
  -- some rule rewrites x to y
  abbrev pub RewritesBySome : Side → Side → Type 0
  RewritesBySome x y = (r : Rule) × Contains rules r × Rewrites r x y

  -- one step in a term, at any place
  mutual
    pub data TermStep : Term → Term → Type 0 where
      here : {t u : Term} → RewritesBySome (Side.of_term t) (Side.of_term u) → TermStep t u
      argument : {f : ℕ} {ts : Tys} {us vs : Terms} → TermsStep us vs → TermStep (Term.app f ts us) (Term.app f ts vs)

    pub data TermsStep : Terms → Terms → Type 0 where
      first : {t u : Term} {us : Terms} → TermStep t u → TermsStep (Terms.more t us) (Terms.more u us)
      later : {t : Term} {us vs : Terms} → TermsStep us vs → TermsStep (Terms.more t us) (Terms.more t vs)

  -- one step in a formula, at any place
  pub data Step : Form → Form → Type 0 where
    here : {f g : Form} → RewritesBySome (Side.of_form f) (Side.of_form g) → Step f g
    atom : {p : ℕ} {ts : Tys} {us vs : Terms} → TermsStep us vs → Step (Form.atom p ts us) (Form.atom p ts vs)
    equal_left : {t : Ty} {a b c : Term} → TermStep a b → Step (Form.equal t a c) (Form.equal t b c)
    equal_right : {t : Ty} {a b c : Term} → TermStep b c → Step (Form.equal t a b) (Form.equal t a c)
    negation : {f g : Form} → Step f g → Step (Form.negation f) (Form.negation g)
    binary_left : {c : Connective} {f g h : Form} → Step f g → Step (Form.binary c f h) (Form.binary c g h)
    binary_right : {c : Connective} {f g h : Form} → Step g h → Step (Form.binary c f g) (Form.binary c f h)
    quantified : {q : Quantifier} {t : Ty} {f g : Form} (n : ℕ) → IsFresh n (Form.quantified q t f)
        → IsFresh n (Form.quantified q t g) → Step (at_term f (Term.eps n t)) (at_term g (Term.eps n t))
        → Step (Form.quantified q t f) (Form.quantified q t g)
    quantified_types : {q : Quantifier} {f g : Form} (n : ℕ) → IsFresh n (Form.quantified_types q f)
        → IsFresh n (Form.quantified_types q g) → Step (at_type f (Ty.param n)) (at_type g (Ty.param n))
        → Step (Form.quantified_types q f) (Form.quantified_types q g)

module _ (symbols : List Symbol) (rules : List Rule) where
  -- well typed formulas lead from f to g, each a step from the next or to it
  pub data Congruent : Form → Form → Type 0 where
    same : {f : Form} → WellTyped symbols f → Congruent f f
    forward : {f g h : Form} → WellTyped symbols f → Step rules f g → Congruent g h → Congruent f h
    backward : {f g h : Form} → WellTyped symbols f → Step rules g f → Congruent g h → Congruent f h

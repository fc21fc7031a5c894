-- Leftmost innermost steps, and normal forms with the number of steps that lead to them.
-- A place under a binder is opened with a parameter whose number is fresh on both sides of the step.
use Rattle.std.specs.Prelude.{ℕ, suc, List, ◌∷◌}
use Rattle.zm_logic.specs.Tree.{Ty, Tys, Term, Terms, Form, Connective, Quantifier, Rule, Side}
use Rattle.zm_logic.specs.Opening.{at_term, at_type}
use Rattle.zm_logic.specs.Parameter.{IsFresh}
use Rattle.zm_logic.specs.Rewriting.{IsRedex, Rewrites, TermStep, TermsStep, Step}

-- the first rule that has x as a redex rewrites it to y
pub data FirstRewrites : List Rule → Side → Side → Type 0 where
  first : {r : Rule} {rules : List Rule} {x y : Side} → Rewrites r x y → FirstRewrites (r ∷ rules) x y
  later : {r : Rule} {rules : List Rule} {x y : Side} → ¬ IsRedex r x → FirstRewrites rules x y → FirstRewrites (r ∷ rules) x y

module _ (rules : List Rule) where
  -- no step leads on
  abbrev pub IsNormalTerm : Term → Type 0
  IsNormalTerm t = (u : Term) → ¬ TermStep rules t u

  abbrev pub AreNormalTerms : Terms → Type 0
  AreNormalTerms ts = (us : Terms) → ¬ TermsStep rules ts us

  abbrev pub IsNormal : Form → Type 0
  IsNormal f = (g : Form) → ¬ Step rules f g

  -- the step at the leftmost place of a term that has no redex inside it
  mutual
    pub data InnermostTermStep : Term → Term → Type 0 where
      here : {f : ℕ} {ts : Tys} {us : Terms} {v : Term} → AreNormalTerms us
          → FirstRewrites rules (Side.of_term (Term.app f ts us)) (Side.of_term v) → InnermostTermStep (Term.app f ts us) v
      argument : {f : ℕ} {ts : Tys} {us vs : Terms} → InnermostTermsStep us vs
          → InnermostTermStep (Term.app f ts us) (Term.app f ts vs)

    pub data InnermostTermsStep : Terms → Terms → Type 0 where
      first : {t u : Term} {us : Terms} → InnermostTermStep t u → InnermostTermsStep (Terms.more t us) (Terms.more u us)
      later : {t : Term} {us vs : Terms} → IsNormalTerm t → InnermostTermsStep us vs
          → InnermostTermsStep (Terms.more t us) (Terms.more t vs)

  -- no part of f has a step
  abbrev pub HasNormalParts : Form → Type 0
  HasNormalParts Form.truth = Unit {0}
  HasNormalParts Form.falsity = Unit {0}
  HasNormalParts (Form.atom p ts us) = AreNormalTerms us
  HasNormalParts (Form.equal t a b) = IsNormalTerm a × IsNormalTerm b
  HasNormalParts (Form.negation f) = IsNormal f
  HasNormalParts (Form.binary c f g) = IsNormal f × IsNormal g
  HasNormalParts (Form.quantified q t f) = (n : ℕ) → IsFresh n (Form.quantified q t f) → IsNormal (at_term f (Term.eps n t))
  HasNormalParts (Form.quantified_types q f) = (n : ℕ) → IsFresh n (Form.quantified_types q f) → IsNormal (at_type f (Ty.param n))

  -- the step at the leftmost place of a formula that has no redex inside it
  pub data InnermostStep : Form → Form → Type 0 where
    here : {f g : Form} → HasNormalParts f → FirstRewrites rules (Side.of_form f) (Side.of_form g) → InnermostStep f g
    atom : {p : ℕ} {ts : Tys} {us vs : Terms} → InnermostTermsStep us vs
        → InnermostStep (Form.atom p ts us) (Form.atom p ts vs)
    equal_left : {t : Ty} {a b c : Term} → InnermostTermStep a b → InnermostStep (Form.equal t a c) (Form.equal t b c)
    equal_right : {t : Ty} {a b c : Term} → IsNormalTerm a → InnermostTermStep b c
        → InnermostStep (Form.equal t a b) (Form.equal t a c)
    negation : {f g : Form} → InnermostStep f g → InnermostStep (Form.negation f) (Form.negation g)
    binary_left : {c : Connective} {f g h : Form} → InnermostStep f g
        → InnermostStep (Form.binary c f h) (Form.binary c g h)
    binary_right : {c : Connective} {f g h : Form} → IsNormal f → InnermostStep g h
        → InnermostStep (Form.binary c f g) (Form.binary c f h)
    quantified : {q : Quantifier} {t : Ty} {f g : Form} (n : ℕ) → IsFresh n (Form.quantified q t f)
        → IsFresh n (Form.quantified q t g) → InnermostStep (at_term f (Term.eps n t)) (at_term g (Term.eps n t))
        → InnermostStep (Form.quantified q t f) (Form.quantified q t g)
    quantified_types : {q : Quantifier} {f g : Form} (n : ℕ) → IsFresh n (Form.quantified_types q f)
        → IsFresh n (Form.quantified_types q g)
        → InnermostStep (at_type f (Ty.param n)) (at_type g (Ty.param n))
        → InnermostStep (Form.quantified_types q f) (Form.quantified_types q g)

  -- f reaches g, which has no step, by n of these steps
  pub data Innermost : Form → ℕ → Form → Type 0 where
    done : {f : Form} → IsNormal f → Innermost f 0 f
    step : {f g h : Form} {n : ℕ} → InnermostStep f g → Innermost g n h → Innermost f (suc n) h

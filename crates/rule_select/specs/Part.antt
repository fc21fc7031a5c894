-- The parts of a side of a rule: the terms and formulas in it, itself among them.
use Rattle.std.specs.Prelude.{ℕ}
use Rattle.zm_logic.specs.Tree.{Ty, Tys, Term, Terms, Form, Connective, Quantifier, Side}
use Rattle.zm_logic.specs.Opening.{at_term, at_type}
use Rattle.zm_logic.specs.Parameter.{IsFresh}

-- x is a part of a side; a part under a binder is a part of the body at a fresh parameter of the binder's type
mutual
  pub data IsPart (x : Side) : Side → Type 0 where
    itself : IsPart x x
    of_application : {f : ℕ} {ts : Tys} {us : Terms} → IsPartOfSome x us → IsPart x (Side.of_term (Term.app f ts us))
    of_atom : {p : ℕ} {ts : Tys} {us : Terms} → IsPartOfSome x us → IsPart x (Side.of_form (Form.atom p ts us))
    of_left : {t : Ty} {a b : Term} → IsPart x (Side.of_term a) → IsPart x (Side.of_form (Form.equal t a b))
    of_right : {t : Ty} {a b : Term} → IsPart x (Side.of_term b) → IsPart x (Side.of_form (Form.equal t a b))
    of_negation : {f : Form} → IsPart x (Side.of_form f) → IsPart x (Side.of_form (Form.negation f))
    of_first : {c : Connective} {f g : Form} → IsPart x (Side.of_form f) → IsPart x (Side.of_form (Form.binary c f g))
    of_second : {c : Connective} {f g : Form} → IsPart x (Side.of_form g) → IsPart x (Side.of_form (Form.binary c f g))
    of_quantified : {q : Quantifier} {t : Ty} {f : Form} (n : ℕ) → IsFresh n (Form.quantified q t f)
        → IsPart x (Side.of_form (at_term f (Term.eps n t))) → IsPart x (Side.of_form (Form.quantified q t f))
    of_quantified_types : {q : Quantifier} {f : Form} (n : ℕ) → IsFresh n (Form.quantified_types q f)
        → IsPart x (Side.of_form (at_type f (Ty.param n))) → IsPart x (Side.of_form (Form.quantified_types q f))

  -- x is a part of one of the terms
  pub data IsPartOfSome (x : Side) : Terms → Type 0 where
    first : {u : Term} {us : Terms} → IsPart x (Side.of_term u) → IsPartOfSome x (Terms.more u us)
    later : {u : Term} {us : Terms} → IsPartOfSome x us → IsPartOfSome x (Terms.more u us)

-- The leftmost innermost step, as a function. Places under binders are left as they are: their indices are loose.
use Rattle.std.specs.Prelude.{List, Option, Some, None}
use Rattle.zm_logic.specs.Tree.{Term, Terms, Form, Side, Rule}
use Rattle.rule_index.specs.Matching.{or_else, first_rewrite}

abbrev pub under : {A B : Type 0} → (A → B) → Option A → Option B
under f None = None
under f (Some a) = Some (f a)

abbrev pub as_term : Option Side → Option Term
as_term (Some (Side.of_term a)) = Some a
as_term _ = None

abbrev pub as_form : Option Side → Option Form
as_form (Some (Side.of_form f)) = Some f
as_form _ = None

module _ (rules : List Rule) where
  abbrev pub root_term : Term → Option Term
  root_term a = as_term (first_rewrite rules (Side.of_term a))

  abbrev pub root_form : Form → Option Form
  root_form f = as_form (first_rewrite rules (Side.of_form f))

  abbrev mutual
    pub next_term : Term → Option Term
    next_term (Term.bound i) = None
    next_term (Term.eps n t) = None
    next_term (Term.meta n t) = None
    next_term (Term.app f ts us) = or_else (under (Term.app f ts) (next_terms us)) (root_term (Term.app f ts us))

    pub next_terms : Terms → Option Terms
    next_terms Terms.none = None
    next_terms (Terms.more u us) = or_else (under (λ v. Terms.more v us) (next_term u)) (under (Terms.more u) (next_terms us))

  -- the step in a part of the formula
  abbrev pub next_step : Form → Option Form
  next_step Form.truth = root_form Form.truth
  next_step Form.falsity = root_form Form.falsity
  next_step (Form.atom p ts us) = or_else (under (Form.atom p ts) (next_terms us)) (root_form (Form.atom p ts us))
  next_step (Form.equal t a b) =
      or_else (under (λ c. Form.equal t c b) (next_term a)) (or_else (under (Form.equal t a) (next_term b)) (root_form (Form.equal t a b)))
  next_step (Form.negation f) = or_else (under Form.negation (next_step f)) (root_form (Form.negation f))
  next_step (Form.binary c f g) =
      or_else (under (λ h. Form.binary c h g) (next_step f)) (or_else (under (Form.binary c f) (next_step g)) (root_form (Form.binary c f g)))
  next_step (Form.quantified q t f) = or_else (under (Form.quantified q t) (next_step f)) (root_form (Form.quantified q t f))
  next_step (Form.quantified_types q f) = or_else (under (Form.quantified_types q) (next_step f)) (root_form (Form.quantified_types q f))

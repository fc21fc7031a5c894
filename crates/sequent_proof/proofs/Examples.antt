-- Worked derivations, and their lines.
use Rattle.std.proofs.Common.{List, [], ◌∷◌, refl, arith}
use Rattle.std.specs.Prelude.{All}
use Rattle.std.proofs.lemmas.List.Elements.{All-nil, All-cons}
use Rattle.zm_logic.specs.Tree.{Form, Rule, Symbol, either, implies}
use Rattle.zm_logic.specs.Typing.{WellTyped}
use Rattle.sequent_proof.specs.Rules.{Applies}
use Rattle.sequent_proof.specs.Tree.{IsDerivation}
use Rattle.sequent_proof.specs.Laws as laws

module _ (symbols : List Symbol) (rules : List Rule) where
  typed_more : (f : Form) (fs : List Form) → WellTyped symbols f → All (WellTyped symbols) fs → All (WellTyped symbols) (f ∷ fs)
  typed_more f fs a b = All-cons (WellTyped symbols) f fs a b

  typed_one : (f : Form) → WellTyped symbols f → All (WellTyped symbols) (f ∷ [])
  typed_one f a = typed_more f [] a (All-nil (WellTyped symbols))

  -- a formula above a sequent that has its negation in second place
  closed_on : (p g : Form) (below : List Form) → WellTyped symbols p → All (WellTyped symbols) (g ∷ Form.negation p ∷ below)
      → IsDerivation symbols rules (g ∷ Form.negation p ∷ below) (laws.closes_on p)
  closed_on p g below a all =
      (typed_more p (g ∷ Form.negation p ∷ below) a all, ([], Applies.closes p (0, omega arith, refl) (2, omega arith, refl), tt))

pub implies_itself_derived : laws.EachFormulaImpliesItself
implies_itself_derived symbols rules p a = ((root, (_, Applies.not_implies p p (0, omega arith, refl), (refl, (leaf, ([], Applies.closes p (0, omega arith, refl) (1, omega arith, refl), tt)), tt))), refl)
  where
    goal : Form
    goal = Form.negation (implies p p)

    root : All (WellTyped symbols) (goal ∷ [])
    root = typed_one symbols rules goal (WellTyped.negation (WellTyped.binary a a))

    leaf : All (WellTyped symbols) (p ∷ Form.negation p ∷ goal ∷ [])
    leaf =
        typed_more symbols rules p (Form.negation p ∷ goal ∷ []) a
        (typed_more symbols rules (Form.negation p) (goal ∷ []) (WellTyped.negation a) root)

pub disjunction_derived : laws.DisjunctionIsIdempotent
disjunction_derived symbols rules p a = (
  (
    root,
    (
      _,
      Applies.not_implies (either p p) p (0, omega arith, refl),
      (refl, (upper, (_, Applies.disjunction p p (0, omega arith, refl), (refl, leaf, (refl, leaf, tt)))), tt),
    ),
  ),
  refl,
)
  where
    goal : Form
    goal = Form.negation (implies (either p p) p)

    root : All (WellTyped symbols) (goal ∷ [])
    root = typed_one symbols rules goal (WellTyped.negation (WellTyped.binary (WellTyped.binary a a) a))

    upper : All (WellTyped symbols) (either p p ∷ Form.negation p ∷ goal ∷ [])
    upper =
        typed_more symbols rules (either p p) (Form.negation p ∷ goal ∷ []) (WellTyped.binary a a)
        (typed_more symbols rules (Form.negation p) (goal ∷ []) (WellTyped.negation a) root)

    leaf : IsDerivation symbols rules (either p p ∷ Form.negation p ∷ goal ∷ []) (laws.closes_on p)
    leaf = closed_on symbols rules p (either p p) (goal ∷ []) a upper

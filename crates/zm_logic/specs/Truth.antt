-- Valuations of ground atoms, and truth under a valuation, for formulas with no quantifier and no equality.
use Rattle.std.specs.Prelude.{Bool, true, false, not, ◌&&◌, ◌||◌, ◌≡◌, ◌≢◌, cond, List, [], ◌∷◌, ◌++◌, All, map}
use Rattle.std.specs.List.{AllPairs}
use Rattle.zm_logic.specs.Tree.{Form, Connective, Problem}
use Rattle.zm_logic.specs.Parameter.{HasNoParameter}
use Rattle.zm_logic.specs.Index.{IsClosed}
use Rattle.zm_logic.specs.Same.{same}

-- an atom with its truth value
pub record Valued : Type 0 where
  pub atom : Form
  pub truth : Bool

-- an atom with no variable and no parameter
abbrev pub IsGroundAtom : Form → Type 0
IsGroundAtom (Form.atom p ts us) = IsClosed 0 (Form.atom p ts us) × HasNoParameter (Form.atom p ts us)
IsGroundAtom _ = ⊥

-- a valuation: a finite list of distinct ground atoms with truth values
pub record IsValuation (v : List Valued) : Type 0 where
  pub atoms : All (λ x. IsGroundAtom x.atom) v
  pub distinct : AllPairs (λ x y. x.atom ≢ y.atom) v

-- the truth value of an atom; an atom that isn't listed counts as false
abbrev pub value_of : List Valued → Form → Bool
value_of [] a = false
value_of (x ∷ xs) a = cond (same x.atom a) x.truth (value_of xs a)

-- a formula with no quantifier and no equality
abbrev pub IsQuantifierFree : Form → Type 0
IsQuantifierFree Form.truth = Unit {0}
IsQuantifierFree Form.falsity = Unit {0}
IsQuantifierFree (Form.atom p ts us) = Unit {0}
IsQuantifierFree (Form.equal t a b) = ⊥
IsQuantifierFree (Form.negation f) = IsQuantifierFree f
IsQuantifierFree (Form.binary c f g) = IsQuantifierFree f × IsQuantifierFree g
IsQuantifierFree (Form.quantified q t f) = ⊥
IsQuantifierFree (Form.quantified_types q f) = ⊥

-- the truth table of a connective
abbrev pub connected : Connective → Bool → Bool → Bool
connected Connective.conjunction a b = a && b
connected Connective.disjunction a b = a || b
connected Connective.implication a b = not a || b
connected Connective.equivalence a b = cond a b (not b)

-- the truth table of a formula, over the truth of its atoms; of quantifiers and equality nothing is asked
abbrev pub truth_of : (Form → Bool) → Form → Bool
truth_of v Form.truth = true
truth_of v Form.falsity = false
truth_of v (Form.atom p ts us) = v (Form.atom p ts us)
truth_of v (Form.equal t a b) = false
truth_of v (Form.negation f) = not (truth_of v f)
truth_of v (Form.binary c f g) = connected c (truth_of v f) (truth_of v g)
truth_of v (Form.quantified q t f) = false
truth_of v (Form.quantified_types q f) = false

-- the formula is true under the valuation
abbrev pub IsTrueUnder : List Valued → Form → Type 0
IsTrueUnder v f = truth_of (value_of v) f ≡ true

-- every premise is true, and the conjecture is false: said of problems with no quantifier and no equality
pub record Falsifies (v : List Valued) (p : Problem) : Type 0 where
  pub premises : All (λ premise. IsTrueUnder v premise.form) p.premises
  pub conjecture : truth_of (value_of v) p.conjecture ≡ false

-- what is refuted: the premises in order, and the negated conjecture
abbrev pub refuted : Problem → List Form
refuted p = map (λ premise. premise.form) p.premises ++ Form.negation p.conjecture ∷ []

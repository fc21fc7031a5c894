-- What a formula by itself gives to be done, before normalising: alpha, beta, delta and gamma.
use Rattle.std.specs.Prelude.{ℕ, Bool, true, false, List, [], ◌∷◌, ◌++◌, Option, None, Some, is_some}
use Rattle.std.specs.List.{position_or_len}
use Rattle.zm_logic.specs.Tree.{Ty, Term, Form, Connective, Quantifier, Opening, Binder}
use Rattle.zm_logic.specs.Opening.{open_at}
use Rattle.zm_logic.specs.Same.{same}

-- What is acted on: a formula (for an instance the quantified one, for a pair of an equality step the unnegated one), the
-- negated formula of such a pair, what a quantified formula is opened with, and whether this is the second offer that
-- s = t and ~(u = v) give.
pub record Act : Type 0 where
  pub first : Form
  pub second : Option Form
  pub part : Option Opening
  pub other : Bool

-- what may be done: what is acted on, and the formulas of each child before normalising
pub record Raw : Type 0 where
  pub act : Act
  pub children : List (List Form)

abbrev pub on : Form → Act
on f = record { first = f; second = None; part = None; other = false }

abbrev pub on_with : Form → Opening → Act
on_with f w = record { first = f; second = None; part = Some w; other = false }

abbrev pub one : Form → List Form
one f = f ∷ []

abbrev pub two : Form → Form → List Form
two f g = f ∷ g ∷ []

-- the formula, or its negation
abbrev pub signed : Bool → Form → Form
signed true f = f
signed false f = Form.negation f

-- Alpha and beta.

-- the children of an alpha formula, which has one, and of a beta formula, which has two
abbrev pub split : Form → List (List Form)
split (Form.negation (Form.negation a)) = one a ∷ []
split (Form.binary Connective.conjunction a b) = two a b ∷ []
split (Form.negation (Form.binary Connective.disjunction a b)) = two (Form.negation a) (Form.negation b) ∷ []
split (Form.negation (Form.binary Connective.implication a b)) = two a (Form.negation b) ∷ []
split (Form.binary Connective.disjunction a b) = one a ∷ one b ∷ []
split (Form.negation (Form.binary Connective.conjunction a b)) = one (Form.negation a) ∷ one (Form.negation b) ∷ []
split (Form.binary Connective.implication a b) = one (Form.negation a) ∷ one b ∷ []
split (Form.binary Connective.equivalence a b) = two a b ∷ two (Form.negation a) (Form.negation b) ∷ []
split (Form.negation (Form.binary Connective.equivalence a b)) = two a (Form.negation b) ∷ two (Form.negation a) b ∷ []
split _ = []

abbrev pub split_offers : Form → List (List Form) → List Raw
split_offers f [] = []
split_offers f (c ∷ cs) = record { act = on f; children = c ∷ cs } ∷ []

-- Delta and gamma.

-- a delta formula is opened with a parameter of its own, a gamma formula with a metavariable, and with instances
pub data QuantifierKind : Type 0 where
  delta : QuantifierKind
  gamma : QuantifierKind

-- a quantified formula: its kind, what its quantifier binds, whether it holds or is denied, and the body
pub record Quantified : Type 0 where
  pub kind : QuantifierKind
  pub binder : Binder
  pub holds : Bool
  pub body : Form

abbrev pub some_of : QuantifierKind → Binder → Bool → Form → Option Quantified
some_of k b s a = Some (record { kind = k; binder = b; holds = s; body = a })

-- a formula as a quantified one, if it is of delta or of gamma kind
abbrev pub quantified : Form → Option Quantified
quantified (Form.quantified Quantifier.existential t a) = some_of QuantifierKind.delta (Binder.of_term t) true a
quantified (Form.negation (Form.quantified Quantifier.universal t a)) = some_of QuantifierKind.delta (Binder.of_term t) false a
quantified (Form.quantified_types Quantifier.existential a) = some_of QuantifierKind.delta Binder.of_type true a
quantified (Form.negation (Form.quantified_types Quantifier.universal a)) = some_of QuantifierKind.delta Binder.of_type false a
quantified (Form.quantified Quantifier.universal t a) = some_of QuantifierKind.gamma (Binder.of_term t) true a
quantified (Form.quantified_types Quantifier.universal a) = some_of QuantifierKind.gamma Binder.of_type true a
quantified (Form.negation (Form.quantified Quantifier.existential t a)) = some_of QuantifierKind.gamma (Binder.of_term t) false a
quantified (Form.negation (Form.quantified_types Quantifier.existential a)) = some_of QuantifierKind.gamma Binder.of_type false a
quantified _ = None

abbrev pub is_quantified : Form → Bool
is_quantified f = is_some (quantified f)

-- The table holds the quantified formulas in the order in which they were placed. A formula's number is its place, and of
-- one that isn't there the number that it gets next.
abbrev pub number_of : List Form → Form → ℕ
number_of table f = position_or_len (λ g. same g f) table

-- what a formula of a number is opened with by its own Step: an epsilon term or a type parameter where it is of delta
-- kind, and a metavariable where it is of gamma kind
abbrev pub part_for : QuantifierKind → Binder → ℕ → Opening
part_for QuantifierKind.delta (Binder.of_term t) n = Opening.of_term (Term.eps n t)
part_for QuantifierKind.delta Binder.of_type n = Opening.of_type (Ty.param n)
part_for QuantifierKind.gamma (Binder.of_term t) n = Opening.of_term (Term.meta n t)
part_for QuantifierKind.gamma Binder.of_type n = Opening.of_type (Ty.meta n)

abbrev pub own_part : ℕ → Quantified → Opening
own_part n q = part_for q.kind q.binder n

-- the body at a term or a type, negated where the quantified formula is denied
abbrev pub at_part : Quantified → Opening → Form
at_part q w = signed q.holds (open_at 0 w q.body)

-- a quantified formula is opened with a part
abbrev pub opened : Form → Quantified → Opening → Raw
opened f q w = record { act = on_with f w; children = one (at_part q w) ∷ [] }

abbrev pub opened_offers : ℕ → Form → Option Quantified → List Raw
opened_offers n f None = []
opened_offers n f (Some q) = opened f q (own_part n q) ∷ []

-- Alpha, beta, delta and gamma: no formula is of two of these kinds.
abbrev pub own_offers : List Form → Form → List Raw
own_offers table f = split_offers f (split f) ++ opened_offers (number_of table f) f (quantified f)

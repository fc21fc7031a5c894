-- A slow reader of formulas, as functions on lists of tokens. What it makes of a formula is left open: the formula
-- itself, or as much of it as is kept. The program's own reader is compared with it, and it with the grammar.
use Rattle.std.specs.Prelude.{ℕ, zero, suc, Bool, true, false, List, [], ◌∷◌, length, Option, Some, None}
use Rattle.tptp_lex.specs.declared.signs.Sign.{Sign}
use Rattle.tptp_lex.specs.declared.signs.Sign.TheVariants.{Open, Close, OpenList, CloseList, Colon, And, Or, Not, Implies, If, Iff, Xor, NotAnd, NotOr, Equal, NotEqual, All, Exists}
use Rattle.tptp_reader.specs.declared.lexeme.Defined.TheVariants.{True, False}
use Rattle.tptp_reader.specs.declared.heads.Binder.{Binder}
use Rattle.tptp_reader.specs.declared.heads.Binder.TheVariants as binders
use Rattle.tptp_reader.specs.declared.heads.Head.{Head}
use Rattle.tptp_reader.specs.declared.heads.Head.TheVariants as heads
use Rattle.tptp_reader.specs.declared.heads.Follow.{Follow}
use Rattle.tptp_reader.specs.declared.heads.Follow.TheVariants as follows
use Rattle.tptp_reader.specs.Raw.{RawTerm, RawVariable, Connective, Quantifier}
use Rattle.tptp_reader.specs.Tokens.{Token, defined}
use Rattle.tptp_reader.specs.Parsing.{first_sign, behind, then}
use Rattle.tptp_reader.specs.SlowLists.{goes_on}
use Rattle.tptp_reader.specs.SlowTerms.{term_in}
use Rattle.tptp_reader.specs.SlowTypes.{variables_in}

-- what each form makes
pub record Values (A : Type 0) : Type 0 where
  pub of_truth : A
  pub of_falsity : A
  pub of_plain : RawTerm → A
  pub of_equal : RawTerm → RawTerm → A
  pub of_not : A → A
  pub of_join : Connective → A → A → A
  pub of_bound : Quantifier → RawVariable → A → A

-- under one quantifier for each variable, the first outermost
abbrev pub bound_all : {A : Type 0} → Values A → Quantifier → List RawVariable → A → A
bound_all v q [] a = a
bound_all v q (x ∷ xs) a = v.of_bound q x (bound_all v q xs a)

-- what a binary connective makes of two, where it joins just two
abbrev pub joins : {A : Type 0} → Values A → Sign → A → A → Option A
joins v Implies a b = Some (v.of_join Connective.implication a b)
joins v If a b = Some (v.of_join Connective.implication b a)
joins v Iff a b = Some (v.of_join Connective.equivalence a b)
joins v Xor a b = Some (v.of_not (v.of_join Connective.equivalence a b))
joins v NotAnd a b = Some (v.of_not (v.of_join Connective.conjunction a b))
joins v NotOr a b = Some (v.of_not (v.of_join Connective.disjunction a b))
joins v s a b = None

-- what the sign that comes next begins
abbrev pub head_of : Option Sign → Head
head_of (Some Not) = heads.Negation
head_of (Some All) = heads.Quantified binders.All
head_of (Some Exists) = heads.Quantified binders.Ex
head_of (Some Open) = heads.Bracket
head_of s = heads.Other

-- how the sign that comes next goes on with a unit
abbrev pub follow_of : Option Sign → Follow
follow_of (Some And) = follows.Conjunction
follow_of (Some Or) = follows.Disjunction
follow_of (Some Implies) = follows.Two Implies
follow_of (Some If) = follows.Two If
follow_of (Some Iff) = follows.Two Iff
follow_of (Some Xor) = follows.Two Xor
follow_of (Some NotAnd) = follows.Two NotAnd
follow_of (Some NotOr) = follows.Two NotOr
follow_of s = follows.Nothing

abbrev pub binder_sign : Binder → Sign
binder_sign binders.All = All
binder_sign binders.Ex = Exists

abbrev pub binder_quantifier : Binder → Quantifier
binder_quantifier binders.All = Quantifier.universal
binder_quantifier binders.Ex = Quantifier.existential

-- a chain with one sign between, for so many turns at most
abbrev pub chain_in : {A : Type 0} → (A → A → A) → Sign → (List Token → Option (A × List Token)) → ℕ → A → List Token → Option (A × List Token)
chain_in join s unit zero a tokens = Some (a, tokens)
chain_in join s unit (suc n) a tokens = goes_on (behind s tokens) (λ rest. then (unit rest) (λ x. chain_in join s unit n (join a x.0) x.1)) (Some (a, tokens))

-- a chain, as long as it goes
abbrev pub chain_from : {A : Type 0} → (A → A → A) → Sign → (List Token → Option (A × List Token)) → A → List Token → Option (A × List Token)
chain_from join s unit a tokens = chain_in join s unit (length tokens) a tokens

-- $true or $false
abbrev pub truth_in : List Token → Option (Bool × List Token)
truth_in (defined True ∷ rest) = Some (true, rest)
truth_in (defined False ∷ rest) = Some (false, rest)
truth_in tokens = None

abbrev pub truth_of : {A : Type 0} → Values A → Bool → A
truth_of v true = v.of_truth
truth_of v false = v.of_falsity

-- the right side of an equation, and what is made of the two sides
abbrev pub right_in : {A : Type 0} → (RawTerm → A) → Bool → ℕ → List Token → Option (A × List Token)
right_in make typed room tokens = then (term_in typed room tokens) (λ x. Some (make x.0, x.1))

-- what a term and the tokens behind it make
unfoldable pub compared_in : {A : Type 0} → Values A → Bool → ℕ → RawTerm → List Token → Option (A × List Token)
compared_in v typed room u tokens =
    goes_on (behind Equal tokens) (λ rest. right_in (λ t. v.of_equal u t) typed room rest)
    (goes_on (behind NotEqual tokens) (λ rest. right_in (λ t. v.of_not (v.of_equal u t)) typed room rest)
    (Some (v.of_plain u, tokens)))

abbrev pub atom_by : {A : Type 0} → Values A → Bool → ℕ → List Token → Option (Bool × List Token) → Option (A × List Token)
atom_by v typed room tokens (Some x) = Some (truth_of v x.0, x.1)
atom_by v typed room tokens None = then (term_in typed room tokens) (λ x. compared_in v typed room x.0 x.1)

-- $true, $false, an atom, or an equation
unfoldable pub atom_in : {A : Type 0} → Values A → Bool → ℕ → List Token → Option (A × List Token)
atom_in v typed room tokens = atom_by v typed room tokens (truth_in tokens)

-- the variables behind the sign of a quantifier, up to the colon
unfoldable pub prefix_in : Bool → ℕ → Sign → List Token → Option (List RawVariable × List Token)
prefix_in typed room s tokens =
    then (behind s tokens) (λ opening.
    then (behind OpenList opening) (λ first.
    then (variables_in typed room first) (λ x.
    then (behind CloseList x.1) (λ closing.
    then (behind Colon closing) (λ rest. Some (x.0, rest))))))

abbrev pub quantified_in : {A : Type 0} → Values A → Bool → ℕ → (List Token → Option (A × List Token)) → Binder → List Token → Option (A × List Token)
quantified_in v typed room unit b tokens =
    then (prefix_in typed room (binder_sign b) tokens) (λ x.
    then (unit x.1) (λ y. Some (bound_all v (binder_quantifier b) x.0 y.0, y.1)))

abbrev pub negation_in : {A : Type 0} → Values A → (List Token → Option (A × List Token)) → List Token → Option (A × List Token)
negation_in v unit tokens = then (behind Not tokens) (λ rest. then (unit rest) (λ x. Some (v.of_not x.0, x.1)))

-- a unit, a connective that joins just two, and another unit
abbrev pub joined_in : {A : Type 0} → Values A → (List Token → Option (A × List Token)) → Sign → A → List Token → Option (A × List Token)
joined_in v unit s a tokens =
    then (behind s tokens) (λ rest.
    then (unit rest) (λ x.
    then (joins v s a x.0) (λ b. Some (b, x.1))))

abbrev pub completed_by : {A : Type 0} → Values A → (List Token → Option (A × List Token)) → A → List Token → Follow → Option (A × List Token)
completed_by v unit a tokens follows.Conjunction = chain_from (v.of_join Connective.conjunction) And unit a tokens
completed_by v unit a tokens follows.Disjunction = chain_from (v.of_join Connective.disjunction) Or unit a tokens
completed_by v unit a tokens (follows.Two s) = joined_in v unit s a tokens
completed_by v unit a tokens follows.Nothing = Some (a, tokens)

-- what a first unit and the tokens behind it make
abbrev pub completed_in : {A : Type 0} → Values A → (List Token → Option (A × List Token)) → A → List Token → Option (A × List Token)
completed_in v unit a tokens = completed_by v unit a tokens (follow_of (first_sign tokens))

unfoldable pub formula_by : {A : Type 0} → Values A → (List Token → Option (A × List Token)) → List Token → Option (A × List Token)
formula_by v unit tokens = then (unit tokens) (λ x. completed_in v unit x.0 x.1)

abbrev pub bracketed_in : {A : Type 0} → Values A → (List Token → Option (A × List Token)) → List Token → Option (A × List Token)
bracketed_in v unit tokens =
    then (behind Open tokens) (λ inside.
    then (formula_by v unit inside) (λ x.
    then (behind Close x.1) (λ rest. Some (x.0, rest))))

abbrev pub unit_by : {A : Type 0} → Values A → Bool → ℕ → (List Token → Option (A × List Token)) → (List Token → Option (A × List Token)) → List Token → Head → Option (A × List Token)
unit_by v typed room atom unit tokens heads.Negation = negation_in v unit tokens
unit_by v typed room atom unit tokens (heads.Quantified b) = quantified_in v typed room unit b tokens
unit_by v typed room atom unit tokens heads.Bracket = bracketed_in v unit tokens
unit_by v typed room atom unit tokens heads.Other = atom tokens

-- a unit, with room for so many open brackets, pending negations and heads of quantifiers
unfoldable pub unit_in : {A : Type 0} → Values A → Bool → ℕ → List Token → Option (A × List Token)
unit_in v typed zero tokens = atom_in v typed zero tokens
unit_in v typed (suc room) tokens = unit_by v typed room (atom_in v typed (suc room)) (unit_in v typed room) tokens (head_of (first_sign tokens))

abbrev pub formula_in : {A : Type 0} → Values A → Bool → ℕ → List Token → Option (A × List Token)
formula_in v typed room tokens = formula_by v (unit_in v typed room) tokens

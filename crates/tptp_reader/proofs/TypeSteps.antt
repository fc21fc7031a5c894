-- The slow readers of types and variables, a step at a time.
use Rattle.std.proofs.Common.{◌≡◌, ◌<◌, ◌-◌, ℕ, zero, suc, Bool, List, [], ◌∷◌, Some, None, refl, arith}
use Rattle.tptp_lex.specs.declared.signs.Sign.{Sign}
use Rattle.tptp_lex.specs.declared.signs.Sign.TheVariants.{Comma}
use Rattle.tptp_reader.specs.declared.lexeme.Defined.{Defined}
use Rattle.tptp_reader.specs.Raw.{Name, RawType}
use Rattle.tptp_reader.specs.Tokens.{Token, lower, upper, defined, quoted, distinct, number, sign}
use Rattle.tptp_reader.specs.Parsing.{then}
use Rattle.tptp_reader.specs.SlowLists.{made, separated}
use Rattle.tptp_reader.specs.SlowTypes.{defined_type, constructed_type, type_by, type_in, type_arguments_in, written_type_in, variable_of, variable_in}

pub type_step : (room : ℕ) (tokens : List Token) → type_in room tokens ≡ type_by (type_arguments_in room) tokens
unfolding type_in type_arguments_in
type_step zero tokens = refl
type_step (suc room) tokens = refl

pub type_empty : (room : ℕ) → type_in room [] ≡ None
type_empty room = type_step room []

pub type_upper : (room : ℕ) (x : Name) (tokens : List Token) → type_in room (upper x ∷ tokens) ≡ Some (RawType.variable x, tokens)
type_upper room x tokens = type_step room (upper x ∷ tokens)

pub type_defined : (room : ℕ) (word : Defined) (tokens : List Token) → type_in room (defined word ∷ tokens) ≡ then (defined_type word) (λ t. Some (t, tokens))
type_defined room word tokens = type_step room (defined word ∷ tokens)

pub type_lower : (room : ℕ) (c : Name) (tokens : List Token) → type_in room (lower c ∷ tokens) ≡ constructed_type (type_arguments_in room) c tokens
type_lower room c tokens = type_step room (lower c ∷ tokens)

pub type_quoted : (room : ℕ) (c : Name) (tokens : List Token) → type_in room (quoted c ∷ tokens) ≡ constructed_type (type_arguments_in room) c tokens
type_quoted room c tokens = type_step room (quoted c ∷ tokens)

pub type_distinct : (room : ℕ) (tokens : List Token) → type_in room (distinct ∷ tokens) ≡ None
type_distinct room tokens = type_step room (distinct ∷ tokens)

pub type_number : (room : ℕ) (text : Name) (tokens : List Token) → type_in room (number text ∷ tokens) ≡ None
type_number room text tokens = type_step room (number text ∷ tokens)

pub type_sign : (room : ℕ) (s : Sign) (tokens : List Token) → type_in room (sign s ∷ tokens) ≡ None
type_sign room s tokens = type_step room (sign s ∷ tokens)

pub ruleset type_steps = (type_empty, type_upper, type_defined, type_lower, type_quoted, type_distinct, type_number, type_sign)

-- where no bracket more may be opened, there are no arguments
pub type_arguments_full : (room : ℕ) (tokens : List Token) → room ≡ 0 → type_arguments_in room tokens ≡ None
unfolding type_arguments_in
type_arguments_full zero tokens e = refl
type_arguments_full (suc room) tokens e = absurd (omega arith)

pub type_arguments_step : (room : ℕ) (tokens : List Token) → 0 < room → type_arguments_in room tokens ≡ separated (type_in (room - 1)) Comma tokens
unfolding type_arguments_in
type_arguments_step zero tokens h = absurd (omega arith)
type_arguments_step (suc room) tokens h = let e : suc room - 1 ≡ room = omega arith in rw e refl

pub variable_empty : (typed : Bool) (room : ℕ) → variable_in typed room [] ≡ None
unfolding variable_in
variable_empty typed room = refl

pub variable_upper : (typed : Bool) (room : ℕ) (x : Name) (tokens : List Token) → variable_in typed room (upper x ∷ tokens) ≡ made (variable_of x) (written_type_in typed room tokens)
unfolding variable_in
variable_upper typed room x tokens = refl

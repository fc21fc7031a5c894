-- A slow reader of types and of the variables of quantifiers. room: how many more brackets may be opened.
use Rattle.std.specs.Prelude.{ℕ, zero, suc, Bool, true, false, List, ◌∷◌, Option, Some, None}
use Rattle.tptp_lex.specs.declared.signs.Sign.TheVariants.{Open, Close, Comma, Colon}
use Rattle.tptp_reader.specs.declared.lexeme.Defined.{Defined}
use Rattle.tptp_reader.specs.declared.lexeme.Defined.TheVariants.{Individual, Truth, Kind}
use Rattle.tptp_reader.specs.Raw.{Name, RawType, RawTypes, RawVariable}
use Rattle.tptp_reader.specs.Tokens.{Token, lower, upper, defined, quoted}
use Rattle.tptp_reader.specs.Parsing.{behind, then}
use Rattle.tptp_reader.specs.View.{raw_types_of}
use Rattle.tptp_reader.specs.SlowLists.{goes_on, made, ended_by, separated}

-- what a word behind a dollar sign is as a type
abbrev pub defined_type : Defined → Option RawType
defined_type Individual = Some RawType.individual
defined_type Truth = Some RawType.truth
defined_type Kind = Some RawType.kind
defined_type word = None

-- what a type constructor begins; arguments reads what stands in its bracket
abbrev pub constructed_type : (List Token → Option (List RawType × List Token)) → Name → List Token → Option (RawType × List Token)
constructed_type arguments c tokens =
    goes_on (behind Open tokens)
    (λ rest. made (λ ts. RawType.named c (raw_types_of ts)) (ended_by Close (arguments rest)))
    (Some (RawType.named c RawTypes.none, tokens))

abbrev pub type_by : (List Token → Option (List RawType × List Token)) → List Token → Option (RawType × List Token)
type_by arguments (upper x ∷ tokens) = Some (RawType.variable x, tokens)
type_by arguments (defined word ∷ tokens) = then (defined_type word) (λ t. Some (t, tokens))
type_by arguments (lower c ∷ tokens) = constructed_type arguments c tokens
type_by arguments (quoted c ∷ tokens) = constructed_type arguments c tokens
type_by arguments tokens = None

abbrev pub no_types : List Token → Option (List RawType × List Token)
no_types tokens = None

unfoldable pub type_in : ℕ → List Token → Option (RawType × List Token)
type_in zero tokens = type_by no_types tokens
type_in (suc room) tokens = type_by (separated (type_in room) Comma) tokens

-- the types in one more bracket
unfoldable pub type_arguments_in : ℕ → List Token → Option (List RawType × List Token)
type_arguments_in zero tokens = None
type_arguments_in (suc room) tokens = separated (type_in room) Comma tokens

-- the type of a variable at its quantifier, where one is written
abbrev pub written_type_in : Bool → ℕ → List Token → Option (Option RawType × List Token)
written_type_in false room tokens = Some (None, tokens)
written_type_in true room tokens = goes_on (behind Colon tokens) (λ rest. made Some (type_in room rest)) (Some (None, tokens))

abbrev pub variable_of : Name → Option RawType → RawVariable
variable_of x t = record { name = x; type = t }

-- a variable at its quantifier
unfoldable pub variable_in : Bool → ℕ → List Token → Option (RawVariable × List Token)
variable_in typed room (upper x ∷ tokens) = made (variable_of x) (written_type_in typed room tokens)
variable_in typed room tokens = None

-- the variables of a quantifier, between its square brackets
unfoldable pub variables_in : Bool → ℕ → List Token → Option (List RawVariable × List Token)
variables_in typed room tokens = separated (variable_in typed room) Comma tokens

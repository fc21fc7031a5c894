-- A slow reader of terms. room: how many more brackets may be opened.
use Rattle.std.specs.Prelude.{ℕ, zero, suc, Bool, true, List, ◌∷◌, Option, Some, None}
use Rattle.tptp_lex.specs.declared.signs.Sign.TheVariants.{Open, Close, Comma}
use Rattle.tptp_reader.specs.declared.lexeme.Defined.{Defined}
use Rattle.tptp_reader.specs.declared.lexeme.Defined.TheVariants.{Individual, Truth}
use Rattle.tptp_reader.specs.Raw.{Name, RawTerm, RawTerms}
use Rattle.tptp_reader.specs.Tokens.{Token, lower, upper, defined, quoted}
use Rattle.tptp_reader.specs.Parsing.{behind, then}
use Rattle.tptp_reader.specs.View.{raw_terms_of}
use Rattle.tptp_reader.specs.SlowLists.{goes_on, made, ended_by, separated}

-- what a word behind a dollar sign is as a term
abbrev pub defined_term : Bool → Defined → Option RawTerm
defined_term true Individual = Some RawTerm.individual
defined_term true Truth = Some RawTerm.truth
defined_term typed word = None

-- what a symbol begins; arguments reads what stands in its bracket
abbrev pub symbol_term : (List Token → Option (List RawTerm × List Token)) → Name → List Token → Option (RawTerm × List Token)
symbol_term arguments f tokens =
    goes_on (behind Open tokens)
    (λ rest. made (λ us. RawTerm.named f (raw_terms_of us)) (ended_by Close (arguments rest)))
    (Some (RawTerm.named f RawTerms.none, tokens))

abbrev pub term_by : Bool → (List Token → Option (List RawTerm × List Token)) → List Token → Option (RawTerm × List Token)
term_by typed arguments (upper x ∷ tokens) = Some (RawTerm.variable x, tokens)
term_by typed arguments (defined word ∷ tokens) = then (defined_term typed word) (λ u. Some (u, tokens))
term_by typed arguments (lower f ∷ tokens) = symbol_term arguments f tokens
term_by typed arguments (quoted f ∷ tokens) = symbol_term arguments f tokens
term_by typed arguments tokens = None

abbrev pub no_terms : List Token → Option (List RawTerm × List Token)
no_terms tokens = None

unfoldable pub term_in : Bool → ℕ → List Token → Option (RawTerm × List Token)
term_in typed zero tokens = term_by typed no_terms tokens
term_in typed (suc room) tokens = term_by typed (separated (term_in typed room) Comma) tokens

-- the terms in one more bracket
unfoldable pub arguments_in : Bool → ℕ → List Token → Option (List RawTerm × List Token)
arguments_in typed zero tokens = None
arguments_in typed (suc room) tokens = separated (term_in typed room) Comma tokens

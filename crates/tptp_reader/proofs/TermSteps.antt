-- The slow reader of terms, a step at a time.
use Rattle.std.proofs.Common.{◌≡◌, ◌<◌, ◌-◌, ℕ, zero, suc, Bool, List, [], ◌∷◌, Some, None, refl, arith}
use Rattle.tptp_lex.specs.declared.signs.Sign.{Sign}
use Rattle.tptp_lex.specs.declared.signs.Sign.TheVariants.{Comma}
use Rattle.tptp_reader.specs.declared.lexeme.Defined.{Defined}
use Rattle.tptp_reader.specs.Raw.{Name, RawTerm}
use Rattle.tptp_reader.specs.Tokens.{Token, lower, upper, defined, quoted, distinct, number, sign}
use Rattle.tptp_reader.specs.Parsing.{then}
use Rattle.tptp_reader.specs.SlowLists.{separated}
use Rattle.tptp_reader.specs.SlowTerms.{defined_term, symbol_term, term_by, term_in, arguments_in}

pub term_step : (typed : Bool) (room : ℕ) (tokens : List Token) → term_in typed room tokens ≡ term_by typed (arguments_in typed room) tokens
unfolding term_in arguments_in
term_step typed zero tokens = refl
term_step typed (suc room) tokens = refl

pub term_empty : (typed : Bool) (room : ℕ) → term_in typed room [] ≡ None
term_empty typed room = term_step typed room []

pub term_upper : (typed : Bool) (room : ℕ) (x : Name) (tokens : List Token) → term_in typed room (upper x ∷ tokens) ≡ Some (RawTerm.variable x, tokens)
term_upper typed room x tokens = term_step typed room (upper x ∷ tokens)

pub term_defined : (typed : Bool) (room : ℕ) (word : Defined) (tokens : List Token) → term_in typed room (defined word ∷ tokens) ≡ then (defined_term typed word) (λ u. Some (u, tokens))
term_defined typed room word tokens = term_step typed room (defined word ∷ tokens)

pub term_lower : (typed : Bool) (room : ℕ) (f : Name) (tokens : List Token) → term_in typed room (lower f ∷ tokens) ≡ symbol_term (arguments_in typed room) f tokens
term_lower typed room f tokens = term_step typed room (lower f ∷ tokens)

pub term_quoted : (typed : Bool) (room : ℕ) (f : Name) (tokens : List Token) → term_in typed room (quoted f ∷ tokens) ≡ symbol_term (arguments_in typed room) f tokens
term_quoted typed room f tokens = term_step typed room (quoted f ∷ tokens)

pub term_distinct : (typed : Bool) (room : ℕ) (tokens : List Token) → term_in typed room (distinct ∷ tokens) ≡ None
term_distinct typed room tokens = term_step typed room (distinct ∷ tokens)

pub term_number : (typed : Bool) (room : ℕ) (text : Name) (tokens : List Token) → term_in typed room (number text ∷ tokens) ≡ None
term_number typed room text tokens = term_step typed room (number text ∷ tokens)

pub term_sign : (typed : Bool) (room : ℕ) (s : Sign) (tokens : List Token) → term_in typed room (sign s ∷ tokens) ≡ None
term_sign typed room s tokens = term_step typed room (sign s ∷ tokens)

pub ruleset term_steps = (term_empty, term_upper, term_defined, term_lower, term_quoted, term_distinct, term_number, term_sign)

-- where no bracket more may be opened, there are no arguments
pub arguments_full : (typed : Bool) (room : ℕ) (tokens : List Token) → room ≡ 0 → arguments_in typed room tokens ≡ None
unfolding arguments_in
arguments_full typed zero tokens e = refl
arguments_full typed (suc room) tokens e = absurd (omega arith)

pub arguments_step : (typed : Bool) (room : ℕ) (tokens : List Token) → 0 < room → arguments_in typed room tokens ≡ separated (term_in typed (room - 1)) Comma tokens
unfolding arguments_in
arguments_step typed zero tokens h = absurd (omega arith)
arguments_step typed (suc room) tokens h = let e : suc room - 1 ≡ room = omega arith in rw e refl

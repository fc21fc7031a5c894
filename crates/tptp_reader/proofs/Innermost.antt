-- One more open bracket, one fewer, and one more token.
use Rattle.std.proofs.Common.{◌≡◌, List, [], ◌∷◌, ◌++◌, refl, ap}
use Rattle.std.specs.Prelude.{map}
use Rattle.std.proofs.lemmas.List.{reverse-append}
use Rattle.tptp_lex.specs.declared.signs.Sign.{Sign}
use Rattle.tptp_lex.specs.declared.signs.Sign.TheVariants.{Open, Close, OpenList, CloseList, Comma, Stop, Colon, And, Or, Not, Implies, If, Iff, Xor, NotAnd, NotOr, Equal, NotEqual, All, Exists, AllTypes, Arrow, Star, At, Caret, Plus, Minus}
use Rattle.tptp_reader.specs.declared.brackets.Opening.{Opening}
use Rattle.tptp_reader.specs.Brackets.{Bracket, behind_closing}
use Rattle.tptp_reader.specs.Opened.{bracket_of, innermost_first, bracketed}
use Rattle.tptp_reader.specs.Parsing.{then}
use Rattle.tptp_reader.specs.Tokens.{Token, lower, upper, defined, quoted, distinct, number, sign}

pub pushed : (xs : List Opening) (x : Opening) → innermost_first (xs ++ x ∷ []) ≡ bracket_of x ∷ innermost_first xs
pushed xs x = ap (map bracket_of) (reverse-append xs (x ∷ []))

-- behind a token the brackets are closed as before it
sign_behind : (b : Bracket) (opened : List Bracket) (s : Sign) (tokens : List Token) → behind_closing (b ∷ opened) (sign s ∷ tokens) ≡ then (bracketed (b ∷ opened) (sign s)) (λ left. behind_closing left tokens)
sign_behind b opened Open tokens = refl
sign_behind b opened OpenList tokens = refl
sign_behind Bracket.round opened Close tokens = refl
sign_behind Bracket.square opened Close tokens = refl
sign_behind Bracket.round opened CloseList tokens = refl
sign_behind Bracket.square opened CloseList tokens = refl
sign_behind b opened Comma tokens = refl
sign_behind b opened Stop tokens = refl
sign_behind b opened Colon tokens = refl
sign_behind b opened And tokens = refl
sign_behind b opened Or tokens = refl
sign_behind b opened Not tokens = refl
sign_behind b opened Implies tokens = refl
sign_behind b opened If tokens = refl
sign_behind b opened Iff tokens = refl
sign_behind b opened Xor tokens = refl
sign_behind b opened NotAnd tokens = refl
sign_behind b opened NotOr tokens = refl
sign_behind b opened Equal tokens = refl
sign_behind b opened NotEqual tokens = refl
sign_behind b opened All tokens = refl
sign_behind b opened Exists tokens = refl
sign_behind b opened AllTypes tokens = refl
sign_behind b opened Arrow tokens = refl
sign_behind b opened Star tokens = refl
sign_behind b opened At tokens = refl
sign_behind b opened Caret tokens = refl
sign_behind b opened Plus tokens = refl
sign_behind b opened Minus tokens = refl

pub token_behind : (b : Bracket) (opened : List Bracket) (token : Token) (tokens : List Token) → behind_closing (b ∷ opened) (token ∷ tokens) ≡ then (bracketed (b ∷ opened) token) (λ left. behind_closing left tokens)
token_behind b opened (lower text) tokens = refl
token_behind b opened (upper text) tokens = refl
token_behind b opened (defined word) tokens = refl
token_behind b opened (quoted text) tokens = refl
token_behind b opened distinct tokens = refl
token_behind b opened (number text) tokens = refl
token_behind b opened (sign s) tokens = sign_behind b opened s tokens

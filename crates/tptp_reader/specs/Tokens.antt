-- The tokens of a statement, as its rows and its grammar see them.
use Rattle.std.specs.Prelude.{◌≡◌, ℕ, ◌-◌, cond, List, [], ◌∷◌, length, codes, slice_range, Option, Some, None}
use Rattle.std.specs.Str.{bytes_eq}
use Rattle.tptp_lex.specs.declared.signs.Sign.{Sign}
use Rattle.tptp_lex.specs.declared.token.TokenKind.{TokenKind}
use Rattle.tptp_lex.specs.declared.token.TokenKind.TheVariants as kinds
use Rattle.tptp_lex.specs.declared.lexer.Token as lex
use Rattle.tptp_lex.specs.Lexing.{IsNext}
use Rattle.tptp_reader.specs.declared.lexeme.Defined.{Defined}
use Rattle.tptp_reader.specs.declared.lexeme.Defined.TheVariants.{True, False, Individual, Truth, Kind, Other}

-- a token: a word or a number by its text, a word behind a dollar sign by its meaning, a quoted name by what stands between
-- its marks, a distinct object, or a sign
pub data Token : Type 0 where
  lower : List ℕ → Token
  upper : List ℕ → Token
  defined : Defined → Token
  quoted : List ℕ → Token
  distinct : Token
  number : List ℕ → Token
  sign : Sign → Token

-- what a word behind a dollar sign means
abbrev pub defined_word : List ℕ → Defined
defined_word text =
    cond (bytes_eq text (codes "$true")) True
    (cond (bytes_eq text (codes "$false")) False
    (cond (bytes_eq text (codes "$i")) Individual
    (cond (bytes_eq text (codes "$o")) Truth
    (cond (bytes_eq text (codes "$tType")) Kind Other))))

-- what stands between the marks at both ends
abbrev pub unmarked : List ℕ → List ℕ
unmarked text = slice_range text 1 (length text - 1)

-- a token of the token table with its text; the end of the text is none
abbrev pub token_of : TokenKind → List ℕ → Option Token
token_of kinds.Lower text = Some (lower text)
token_of kinds.Upper text = Some (upper text)
token_of kinds.Dollar text = Some (defined (defined_word text))
token_of kinds.Quoted text = Some (quoted (unmarked text))
token_of kinds.Distinct text = Some distinct
token_of kinds.Number text = Some (number text)
token_of (kinds.Sign s) text = Some (sign s)
token_of kinds.End text = None

-- The tokens of a text from one place on, one after another, with the place of each, up to the place behind the last.
pub data Tokens (bytes : List ℕ) : ℕ → List Token → List ℕ → ℕ → Type 0 where
  none : {from : ℕ} → Tokens bytes from [] [] from
  one_more : {from after : ℕ} {t : lex.Token} {token : Token} {tokens : List Token} {places : List ℕ} →
      IsNext bytes from t → token_of t.kind (slice_range bytes t.start t.end) ≡ Some token →
      Tokens bytes t.end tokens places after → Tokens bytes from (token ∷ tokens) (t.start ∷ places) after

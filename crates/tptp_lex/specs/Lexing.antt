-- The tokens of a text, one after another.
use Rattle.std.specs.Prelude.{◌≢◌, ◌≤◌, ℕ, List, [], length, drop, Option}
use Rattle.tptp_lex.specs.declared.lexer.Token.{Token}
use Rattle.tptp_lex.specs.declared.token.TokenKind.TheVariants.{End}
use Rattle.tptp_lex.specs.declared.lexer.LexFault.{LexFault}
use Rattle.tptp_lex.specs.declared.token.TokenKind.{TokenKind}
use Rattle.tptp_lex.specs.Blank.{Skips}
use Rattle.tptp_lex.specs.Rows.{IsLongest, NoRow}

-- What is known of a lexer: its text, the place behind the last token, and the fault at which it stopped, if it did.
pub record Reading : Type 0 where
  pub text : List ℕ
  pub reached : ℕ
  pub stopped : Option LexFault

-- What the bytes begin with: the longest token of the table, or the end where no byte is left.
pub data IsToken : List ℕ → TokenKind → List ℕ → Type 0 where
  at_end : IsToken [] End []
  in_table : {bytes rest : List ℕ} {kind : TokenKind} → IsLongest bytes kind rest → IsToken bytes kind rest

-- The token is the first from this place on: white space and comments lead to its start, and there it stands.
pub record IsNext (text : List ℕ) (from : ℕ) (t : Token) : Type 0 where
  pub skips : Skips (drop from text) (drop t.start text)
  pub token : IsToken (drop t.start text) t.kind (drop t.end text)
  pub after : from ≤ t.start
  pub order : t.start ≤ t.end
  pub within : t.end ≤ length text

-- White space and comments lead to a place where a byte is left and no token begins.
pub record IsFault (text : List ℕ) (from at : ℕ) : Type 0 where
  pub skips : Skips (drop from text) (drop at text)
  pub more : drop at text ≢ []
  pub none : NoRow (drop at text)
  pub after : from ≤ at
  pub within : at ≤ length text

-- Only white space and comments follow from this place on.
abbrev pub OnlyBlank : List ℕ → ℕ → Type 0
OnlyBlank text from = Skips (drop from text) []

-- The end of a text as a token: nothing, behind the last byte.
abbrev pub end_of : List ℕ → Token
end_of text = record { kind = End; start = length text; end = length text }

-- What is found by how far each row goes. It is the next token or the fault of the table, as the lexer's contract says.
use Rattle.std.specs.Prelude.{◌≡◌, ◌≤◌, ℕ, ◌-◌, List, ◌∷◌, length, drop, Some, None}
use Rattle.std.specs.List.{find}
use Rattle.tptp_lex.specs.declared.signs.Sign.{Sign}
use Rattle.tptp_lex.specs.declared.signs.TheConstants.{SIGNS}
use Rattle.tptp_lex.specs.Signs.{begins}
use Rattle.tptp_lex.specs.declared.lexer.Token.{Token}
use Rattle.tptp_lex.specs.Blank.{Skips}
use Rattle.tptp_lex.specs.Tokens.{token_at}

-- The first token from this place on, as the lengths of the rows give it.
pub record Finds (text : List ℕ) (from : ℕ) (t : Token) : Type 0 where
  pub skips : Skips (drop from text) (drop t.start text)
  pub row : token_at (drop t.start text) ≡ Some (t.kind, t.end - t.start)
  pub after : from ≤ t.start
  pub order : t.start ≤ t.end
  pub within : t.end ≤ length text

-- The place where the rows give no length.
pub record FindsNone (text : List ℕ) (from at : ℕ) : Type 0 where
  pub skips : Skips (drop from text) (drop at text)
  pub none : token_at (drop at text) ≡ None
  pub after : from ≤ at
  pub within : at ≤ length text

-- A first byte tells this sign, whatever stands behind it: it is the first of the table that fits.
abbrev pub IsTold : ℕ → Sign → Type 0
IsTold b s = (bytes : List ℕ) → find (begins (b ∷ bytes)) SIGNS ≡ Some s

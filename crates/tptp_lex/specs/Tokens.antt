-- How far the token at the front goes, row by row.
use Rattle.std.specs.Prelude.{ℕ, ◌+◌, ◌==◌, false, cond, List, [], ◌∷◌, length, Option, Some, None}
use Rattle.std.specs.Option.{option_map}
use Rattle.std.specs.List.{find}
use Rattle.tptp_lex.specs.declared.signs.Sign.{Sign}
use Rattle.tptp_lex.specs.declared.signs.TheConstants.{SIGNS}
use Rattle.tptp_lex.specs.declared.token.TokenKind.{TokenKind}
use Rattle.tptp_lex.specs.declared.token.TokenKind.TheVariants as kinds
use Rattle.tptp_lex.specs.Words.{is_small, is_capital, is_word, run, lower_length}
use Rattle.tptp_lex.specs.Quoted.{closes}
use Rattle.tptp_lex.specs.Signs.{spelling, begins}
use Rattle.tptp_lex.specs.Numbers.{number_length}

-- how far it goes behind a dollar sign: a lower, or another dollar sign and a lower
abbrev pub dollar_length : List ℕ → Option ℕ
dollar_length [] = None
dollar_length (b ∷ bytes) = cond (b == 36) (option_map (λ n. 1 + n) (lower_length bytes)) (lower_length (b ∷ bytes))

-- how far it goes behind a mark: one byte or more, and the mark
abbrev pub marked_length : ℕ → List ℕ → Option ℕ
marked_length mark [] = None
marked_length mark (b ∷ bytes) = cond (b == mark) None (closes mark false (b ∷ bytes))

-- a sign as a token, with its length
abbrev pub sign_token : Option Sign → Option (TokenKind × ℕ)
sign_token None = None
sign_token (Some s) = Some (kinds.Sign s, length (spelling s))

-- a number where there is one, else something other
abbrev pub number_or : Option ℕ → Option (TokenKind × ℕ) → Option (TokenKind × ℕ)
number_or None other = other
number_or (Some n) other = Some (kinds.Number, n)

-- the number or the sign at the front
abbrev pub number_or_sign : List ℕ → Option (TokenKind × ℕ)
number_or_sign bytes = number_or (number_length bytes) (sign_token (find (begins bytes) SIGNS))

-- the kind of the token at the front, and its length; the first byte tells the row, but for numbers and signs
abbrev pub token_at : List ℕ → Option (TokenKind × ℕ)
token_at [] = Some (kinds.End, 0)
token_at (b ∷ bytes) =
    cond (is_small b) (Some (kinds.Lower, 1 + run is_word bytes))
    (cond (is_capital b) (Some (kinds.Upper, 1 + run is_word bytes))
    (cond (b == 36) (option_map (λ n. (kinds.Dollar, 1 + n)) (dollar_length bytes))
    (cond (b == 39) (option_map (λ n. (kinds.Quoted, 1 + n)) (marked_length 39 bytes))
    (cond (b == 34) (option_map (λ n. (kinds.Distinct, 1 + n)) (marked_length 34 bytes))
    (number_or_sign (b ∷ bytes))))))

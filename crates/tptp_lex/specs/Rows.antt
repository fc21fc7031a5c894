-- The token table, as a relation between bytes and what is left of them behind one token.
use Rattle.std.specs.Prelude.{◌≡◌, ◌≤◌, ℕ, Bool, true, false, not, ◌||◌, ◌&&◌, ◌==◌, List, ◌∷◌, ◌++◌, length}
use Rattle.tptp_lex.specs.declared.signs.Sign.{Sign}
use Rattle.tptp_lex.specs.declared.token.TokenKind.{TokenKind}
use Rattle.tptp_lex.specs.declared.token.TokenKind.TheVariants as kinds
use Rattle.tptp_lex.specs.Words.{between, is_small, is_capital, is_word}
use Rattle.tptp_lex.specs.Numbers.{is_digit}
use Rattle.tptp_lex.specs.Signs.{spelling}

-- Bytes that pass a test stand in front, any number of them, and the rest follows.
pub data Run : (ℕ → Bool) → List ℕ → List ℕ → Type 0 where
  none : {test : ℕ → Bool} {rest : List ℕ} → Run test rest rest
  one : {test : ℕ → Bool} {b : ℕ} {bytes rest : List ℕ} → test b ≡ true → Run test bytes rest → Run test (b ∷ bytes) rest

-- A byte that stands for itself between marks: 32 to 126, neither the mark nor a backslash.
abbrev pub is_plain : ℕ → ℕ → Bool
is_plain mark b = between 32 126 b && not (b == mark) && not (b == 92)

-- Plain bytes, and backslashes (92) each with the mark or a backslash behind it, up to the closing mark.
pub data Inside : ℕ → List ℕ → List ℕ → Type 0 where
  closing : {mark b : ℕ} {rest : List ℕ} → (b == mark) ≡ true → Inside mark (b ∷ rest) rest
  plain : {mark b : ℕ} {bytes rest : List ℕ} → is_plain mark b ≡ true → Inside mark bytes rest → Inside mark (b ∷ bytes) rest
  escaped : {mark b : ℕ} {bytes rest : List ℕ} → (b == mark || b == 92) ≡ true → Inside mark bytes rest → Inside mark (92 ∷ b ∷ bytes) rest

-- One digit or more.
pub data Digits : List ℕ → List ℕ → Type 0 where
  digits : {b : ℕ} {bytes rest : List ℕ} → is_digit b ≡ true → Run is_digit bytes rest → Digits (b ∷ bytes) rest

-- Optionally a point (46) or a stroke (47), and digits.
pub data Fraction : List ℕ → List ℕ → Type 0 where
  no_fraction : {rest : List ℕ} → Fraction rest rest
  fraction_digits : {b : ℕ} {bytes rest : List ℕ} → (b == 46 || b == 47) ≡ true → Digits bytes rest → Fraction (b ∷ bytes) rest

-- Optionally E (69) or e (101), a sign (+ is 43, - is 45), and digits.
pub data Exponent : List ℕ → List ℕ → Type 0 where
  no_exponent : {rest : List ℕ} → Exponent rest rest
  exponent_digits : {b sign : ℕ} {bytes rest : List ℕ} → (b == 69 || b == 101) ≡ true → (sign == 43 || sign == 45) ≡ true → Digits bytes rest → Exponent (b ∷ sign ∷ bytes) rest

-- The rows: the kind, the bytes, and what is left of them. The codes are those of $ (36), ' (39), the double quote (34), + (43) and - (45).
pub data Row : TokenKind → List ℕ → List ℕ → Type 0 where
  lower : {b : ℕ} {bytes rest : List ℕ} → is_small b ≡ true → Run is_word bytes rest → Row kinds.Lower (b ∷ bytes) rest
  upper : {b : ℕ} {bytes rest : List ℕ} → is_capital b ≡ true → Run is_word bytes rest → Row kinds.Upper (b ∷ bytes) rest
  dollar : {b : ℕ} {bytes rest : List ℕ} → is_small b ≡ true → Run is_word bytes rest → Row kinds.Dollar (36 ∷ b ∷ bytes) rest
  dollars : {b : ℕ} {bytes rest : List ℕ} → is_small b ≡ true → Run is_word bytes rest → Row kinds.Dollar (36 ∷ 36 ∷ b ∷ bytes) rest
  quoted : {b : ℕ} {bytes rest : List ℕ} → (b == 39) ≡ false → Inside 39 (b ∷ bytes) rest → Row kinds.Quoted (39 ∷ b ∷ bytes) rest
  distinct : {b : ℕ} {bytes rest : List ℕ} → (b == 34) ≡ false → Inside 34 (b ∷ bytes) rest → Row kinds.Distinct (34 ∷ b ∷ bytes) rest
  number : {bytes middle behind rest : List ℕ} → Digits bytes middle → Fraction middle behind → Exponent behind rest → Row kinds.Number bytes rest
  signed_number : {sign : ℕ} {bytes middle behind rest : List ℕ} → (sign == 43 || sign == 45) ≡ true → Digits bytes middle → Fraction middle behind → Exponent behind rest → Row kinds.Number (sign ∷ bytes) rest
  sign : {s : Sign} {bytes rest : List ℕ} → bytes ≡ spelling s ++ rest → Row (kinds.Sign s) bytes rest

-- A token of the table, and none of any row goes on further.
pub record IsLongest (bytes : List ℕ) (kind : TokenKind) (rest : List ℕ) : Type 0 where
  pub row : Row kind bytes rest
  pub longest : (other : TokenKind) (behind : List ℕ) → Row other bytes behind → length rest ≤ length behind

-- No token of any row begins the bytes.
abbrev pub NoRow : List ℕ → Type 0
NoRow bytes = (kind : TokenKind) (rest : List ℕ) → Row kind bytes rest → ⊥

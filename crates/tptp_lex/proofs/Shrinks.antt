-- A token has a byte.
use Rattle.std.proofs.Common.{◌≡◌, ℕ, ◌+◌, ◌-◌, ◌≤◌, ◌<◌, Bool, List, ◌∷◌, length, drop, length-drop, length-append, refl, ◌∙◌, ap, arith}
use Rattle.std.specs.Prelude.{◌≢◌}
use Rattle.tptp_lex.specs.declared.lexer.Token.{Token}
use Rattle.tptp_lex.specs.declared.token.TokenKind.{TokenKind}
use Rattle.tptp_lex.specs.declared.token.TokenKind.TheVariants as kinds
use Rattle.tptp_lex.specs.Words.{is_word}
use Rattle.tptp_lex.specs.Numbers.{is_digit}
use Rattle.tptp_lex.specs.Signs.{spelling}
use Rattle.tptp_lex.specs.Lexing.{IsToken, at_end, in_table, IsNext}
use Rattle.tptp_lex.specs.Rows.{Run, none, one, Digits, digits, Fraction, no_fraction, fraction_digits, Exponent, no_exponent, exponent_digits, Row, lower, upper, dollar, dollars, quoted, distinct, number, signed_number, sign}
use Rattle.tptp_lex.proofs.Ascii.{inside_shrinks}
use Rattle.tptp_lex.proofs.LongestSign.{has_byte}

run_shrinks : (test : ℕ → Bool) (bytes rest : List ℕ) → Run test bytes rest → length rest ≤ length bytes
run_shrinks test bytes rest none = omega arith
run_shrinks test bytes rest (one {bytes = others} h r) = let le = run_shrinks test others rest r in omega arith

digits_shrink : (bytes rest : List ℕ) → Digits bytes rest → length rest < length bytes
digits_shrink bytes rest (digits {bytes = others} h r) = let le = run_shrinks is_digit others rest r in omega arith

fraction_shrinks : (bytes rest : List ℕ) → Fraction bytes rest → length rest ≤ length bytes
fraction_shrinks bytes rest no_fraction = omega arith
fraction_shrinks bytes rest (fraction_digits {bytes = others} h d) = let lt = digits_shrink others rest d in omega arith

exponent_shrinks : (bytes rest : List ℕ) → Exponent bytes rest → length rest ≤ length bytes
exponent_shrinks bytes rest no_exponent = omega arith
exponent_shrinks bytes rest (exponent_digits {bytes = others} h k d) = let lt = digits_shrink others rest d in omega arith

number_shrinks : (bytes middle behind rest : List ℕ) → Digits bytes middle → Fraction middle behind → Exponent behind rest → length rest < length bytes
number_shrinks bytes middle behind rest d f e =
    let p = digits_shrink bytes middle d in let q = fraction_shrinks middle behind f in let r = exponent_shrinks behind rest e in omega arith

row_shrinks : (kind : TokenKind) (bytes rest : List ℕ) → Row kind bytes rest → length rest < length bytes
row_shrinks kind bytes rest (lower {bytes = others} h r) = let le = run_shrinks is_word others rest r in omega arith
row_shrinks kind bytes rest (upper {bytes = others} h r) = let le = run_shrinks is_word others rest r in omega arith
row_shrinks kind bytes rest (dollar {bytes = others} h r) = let le = run_shrinks is_word others rest r in omega arith
row_shrinks kind bytes rest (dollars {bytes = others} h r) = let le = run_shrinks is_word others rest r in omega arith
row_shrinks kind bytes rest (quoted {b = b} {bytes = others} h i) = let lt = inside_shrinks 39 (b ∷ others) rest i in omega arith
row_shrinks kind bytes rest (distinct {b = b} {bytes = others} h i) = let lt = inside_shrinks 34 (b ∷ others) rest i in omega arith
row_shrinks kind bytes rest (number {middle = middle} {behind = behind} d f e) = number_shrinks bytes middle behind rest d f e
row_shrinks kind bytes rest (signed_number {bytes = others} {middle = middle} {behind = behind} h d f e) = let lt = number_shrinks others middle behind rest d f e in omega arith
row_shrinks kind bytes rest (sign {s = s} e) =
    let some = has_byte s in
    let sum : length bytes ≡ length (spelling s) + length rest = ap length e ∙ length-append (spelling s) rest in
    omega arith

token_shrinks : (kind : TokenKind) (bytes rest : List ℕ) → IsToken bytes kind rest → kind ≢ kinds.End → length rest < length bytes
token_shrinks kind bytes rest at_end more = absurd (more refl)
token_shrinks kind bytes rest (in_table l) more = row_shrinks kind bytes rest l.row

-- a token that isn't the end has a byte
pub next_has_byte : (text : List ℕ) (from : ℕ) (t : Token) → IsNext text from t → t.kind ≢ kinds.End → t.start < t.end
next_has_byte text from t n more =
    let order = n.order in let within = n.within in
    let first : length (drop t.start text) ≡ length text - t.start = length-drop t.start text in
    let last : length (drop t.end text) ≡ length text - t.end = length-drop t.end text in
    let lt = token_shrinks t.kind (drop t.start text) (drop t.end text) n.token more in
    omega arith

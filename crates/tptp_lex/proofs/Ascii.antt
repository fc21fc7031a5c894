-- The text of a word, a number or a quoted name is ASCII.
use Rattle.std.proofs.Common.{◌≡◌, ℕ, ◌+◌, ◌-◌, ◌≤◌, ◌<◌, Bool, true, false, List, [], ◌∷◌, ◌++◌, length, take, drop, length-drop, length-append, append_assoc, refl, sym, ◌∙◌, ap, subst, arith}
use Rattle.std.specs.Prelude.{◌==◌, ◌||◌, slice_range}
use Rattle.std.specs.Str.{IsAscii}
use Rattle.std.proofs.lemmas.Bool.Decides.{nat_tests}
use Rattle.std.proofs.lemmas.List.{take_at}
use Rattle.std.proofs.lemmas.Str.{IsAscii-append}
use Rattle.std.proofs.lemmas.Str.Ascii.{IsAscii-nil, IsAscii-cons}
use Rattle.std.proofs.lemmas.Bool.{false≢true}
use Rattle.tptp_lex.specs.declared.token.TokenKind.{TokenKind}
use Rattle.tptp_lex.specs.declared.token.TokenKind.TheVariants as kinds
use Rattle.tptp_lex.specs.Words.{is_small, is_capital, is_word}
use Rattle.tptp_lex.specs.Numbers.{is_digit}
use Rattle.tptp_lex.specs.Lexing.{IsToken, at_end, in_table}
use Rattle.tptp_lex.specs.Rows.{Run, none, one, is_plain, Inside, closing, plain, escaped, Digits, digits, Fraction, no_fraction, fraction_digits, Exponent, no_exponent, exponent_digits, Row, lower, upper, dollar, dollars, quoted, distinct, number, signed_number, sign}

-- what stands in front of the rest is ASCII
record Front (bytes rest : List ℕ) : Type 0 where
  front : List ℕ
  joins : bytes ≡ front ++ rest
  low : IsAscii front

nothing : (rest : List ℕ) → Front rest rest
nothing rest = record { front = []; joins = refl; low = IsAscii-nil }

longer : (b : ℕ) (bytes rest : List ℕ) → b < 128 → Front bytes rest → Front (b ∷ bytes) rest
longer b bytes rest lt f = record { front = b ∷ f.front; joins = ap (λ xs. b ∷ xs) f.joins; low = IsAscii-cons b f.front lt f.low }

two_fronts : (bytes middle rest : List ℕ) → Front bytes middle → Front middle rest → Front bytes rest
two_fronts bytes middle rest f g = record {
  front = f.front ++ g.front;
  joins = f.joins ∙ ap (λ xs. f.front ++ xs) g.joins ∙ sym (append_assoc f.front g.front rest);
  low = IsAscii-append f.front g.front f.low g.low;
}

word_low : (b : ℕ) → is_word b ≡ true → b < 128
word_low b h = grind (arith, nat_tests)

small_low : (b : ℕ) → is_small b ≡ true → b < 128
small_low b h = grind (arith, nat_tests)

capital_low : (b : ℕ) → is_capital b ≡ true → b < 128
capital_low b h = grind (arith, nat_tests)

digit_low : (b : ℕ) → is_digit b ≡ true → b < 128
digit_low b h = grind (arith, nat_tests)

plain_low : (mark b : ℕ) → is_plain mark b ≡ true → b < 128
plain_low mark b h = grind (arith, nat_tests)

same_low : (mark b : ℕ) → mark < 128 → (b == mark) ≡ true → b < 128
same_low mark b lt h = grind (arith, nat_tests)

either_low : (c d b : ℕ) → c < 128 → d < 128 → (b == c || b == d) ≡ true → b < 128
either_low c d b p q h = grind (arith, nat_tests)

run_front : (test : ℕ → Bool) (bytes rest : List ℕ) → ((b : ℕ) → test b ≡ true → b < 128) → Run test bytes rest → Front bytes rest
run_front test bytes rest low none = nothing rest
run_front test bytes rest low (one {b = b} {bytes = others} h r) = longer b others rest (low b h) (run_front test others rest low r)

inside_front : (mark : ℕ) (bytes rest : List ℕ) → mark < 128 → Inside mark bytes rest → Front bytes rest
inside_front mark bytes rest lt (closing {b = b} h) = longer b rest rest (same_low mark b lt h) (nothing rest)
inside_front mark bytes rest lt (plain {b = b} {bytes = others} h i) = longer b others rest (plain_low mark b h) (inside_front mark others rest lt i)
inside_front mark bytes rest lt (escaped {b = b} {bytes = others} h i) = longer 92 (b ∷ others) rest (omega arith) (longer b others rest (either_low mark 92 b lt (omega arith) h) (inside_front mark others rest lt i))

digits_front : (bytes rest : List ℕ) → Digits bytes rest → Front bytes rest
digits_front bytes rest (digits {b = b} {bytes = others} h r) = longer b others rest (digit_low b h) (run_front is_digit others rest digit_low r)

fraction_front : (bytes rest : List ℕ) → Fraction bytes rest → Front bytes rest
fraction_front bytes rest no_fraction = nothing rest
fraction_front bytes rest (fraction_digits {b = b} {bytes = others} h d) = longer b others rest (either_low 46 47 b (omega arith) (omega arith) h) (digits_front others rest d)

exponent_front : (bytes rest : List ℕ) → Exponent bytes rest → Front bytes rest
exponent_front bytes rest no_exponent = nothing rest
exponent_front bytes rest (exponent_digits {b = b} {sign = c} {bytes = others} h k d) =
    longer b (c ∷ others) rest (either_low 69 101 b (omega arith) (omega arith) h)
    (longer c others rest (either_low 43 45 c (omega arith) (omega arith) k) (digits_front others rest d))

number_front : (bytes middle behind rest : List ℕ) → Digits bytes middle → Fraction middle behind → Exponent behind rest → Front bytes rest
number_front bytes middle behind rest d f e =
    two_fronts bytes middle rest (digits_front bytes middle d) (two_fronts middle behind rest (fraction_front middle behind f) (exponent_front behind rest e))

-- the rows with a text of their own
abbrev pub has_text : TokenKind → Bool
has_text kinds.Lower = true
has_text kinds.Upper = true
has_text kinds.Dollar = true
has_text kinds.Quoted = true
has_text kinds.Distinct = true
has_text kinds.Number = true
has_text (kinds.Sign s) = false
has_text kinds.End = false

row_front : (kind : TokenKind) (bytes rest : List ℕ) → has_text kind ≡ true → Row kind bytes rest → Front bytes rest
row_front kind bytes rest h (lower {b = b} {bytes = others} s r) = longer b others rest (small_low b s) (run_front is_word others rest word_low r)
row_front kind bytes rest h (upper {b = b} {bytes = others} s r) = longer b others rest (capital_low b s) (run_front is_word others rest word_low r)
row_front kind bytes rest h (dollar {b = b} {bytes = others} s r) = longer 36 (b ∷ others) rest (omega arith) (longer b others rest (small_low b s) (run_front is_word others rest word_low r))
row_front kind bytes rest h (dollars {b = b} {bytes = others} s r) =
    longer 36 (36 ∷ b ∷ others) rest (omega arith) (longer 36 (b ∷ others) rest (omega arith) (longer b others rest (small_low b s) (run_front is_word others rest word_low r)))
row_front kind bytes rest h (quoted {b = b} {bytes = others} s i) = longer 39 (b ∷ others) rest (omega arith) (inside_front 39 (b ∷ others) rest (omega arith) i)
row_front kind bytes rest h (distinct {b = b} {bytes = others} s i) = longer 34 (b ∷ others) rest (omega arith) (inside_front 34 (b ∷ others) rest (omega arith) i)
row_front kind bytes rest h (number {middle = middle} {behind = behind} d f e) = number_front bytes middle behind rest d f e
row_front kind bytes rest h (signed_number {sign = c} {bytes = others} {middle = middle} {behind = behind} k d f e) =
    longer c others rest (either_low 43 45 c (omega arith) (omega arith) k) (number_front others middle behind rest d f e)
row_front kind bytes rest h (sign e) = absurd (false≢true h)

token_front : (kind : TokenKind) (bytes rest : List ℕ) → has_text kind ≡ true → IsToken bytes kind rest → Front bytes rest
token_front kind bytes rest h at_end = absurd (false≢true h)
token_front kind bytes rest h (in_table l) = row_front kind bytes rest h l.row

front_slice : (text : List ℕ) (start end : ℕ) → start ≤ end → end ≤ length text → Front (drop start text) (drop end text) → IsAscii (slice_range text start end)
front_slice text start end order within f =
    let first : length (drop start text) ≡ length text - start = length-drop start text in
    let last : length (drop end text) ≡ length text - end = length-drop end text in
    let sum : length (drop start text) ≡ length f.front + length (drop end text) = ap length f.joins ∙ length-append f.front (drop end text) in
    let long : length f.front ≡ end - start = omega arith in
    let same : f.front ≡ take (end - start) (drop start text) = sym (ap (take (end - start)) f.joins ∙ take_at f.front (drop end text) (end - start) long) in
    subst (λ (xs : List ℕ). IsAscii xs) same f.low

-- the bytes of a token with a text of its own are ASCII
pub text_ascii : (text : List ℕ) (kind : TokenKind) (start end : ℕ) → has_text kind ≡ true → IsToken (drop start text) kind (drop end text) → start ≤ end → end ≤ length text → IsAscii (slice_range text start end)
text_ascii text kind start end h t order within = front_slice text start end order within (token_front kind (drop start text) (drop end text) h t)

pub inside_shrinks : (mark : ℕ) (bytes rest : List ℕ) → Inside mark bytes rest → length rest < length bytes
inside_shrinks mark bytes rest (closing h) = omega arith
inside_shrinks mark bytes rest (plain {bytes = others} h i) = let lt = inside_shrinks mark others rest i in omega arith
inside_shrinks mark bytes rest (escaped {bytes = others} h i) = let lt = inside_shrinks mark others rest i in omega arith

quoted_row : (bytes rest : List ℕ) → Row kinds.Quoted bytes rest → length rest + 2 ≤ length bytes
quoted_row bytes rest (quoted {b = b} {bytes = others} s i) = let lt = inside_shrinks 39 (b ∷ others) rest i in omega arith

quoted_token : (bytes rest : List ℕ) → IsToken bytes kinds.Quoted rest → length rest + 2 ≤ length bytes
quoted_token bytes rest (in_table l) = quoted_row bytes rest l.row

-- a quoted name has its two marks
pub two_marks : (text : List ℕ) (start end : ℕ) → IsToken (drop start text) kinds.Quoted (drop end text) → start ≤ end → end ≤ length text → start + 2 ≤ end
two_marks text start end t order within =
    let first : length (drop start text) ≡ length text - start = length-drop start text in
    let last : length (drop end text) ≡ length text - end = length-drop end text in
    let le = quoted_token (drop start text) (drop end text) t in
    omega arith

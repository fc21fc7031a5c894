-- What the lexer takes is a row of the table.
use Rattle.std.proofs.Common.{◌≡◌, ℕ, suc, ◌+◌, Bool, true, false, cond, List, [], ◌∷◌, ◌++◌, length, drop, Option, Some, None, refl, sym, ◌∙◌, ap, subst, arith}
use Rattle.std.specs.Prelude.{◌==◌, ◌&&◌, ◌||◌, not, nat_lt}
use Rattle.std.specs.Option.{option_map}
use Rattle.std.specs.List.{find, starts_with}
use Rattle.std.proofs.lemmas.List.{drop-drop}
use Rattle.std.proofs.lemmas.Slice.Eq.{starts_is}
use Rattle.std.proofs.lemmas.Bool.{eqb-true, false≢true, true≢false}
use Rattle.std.proofs.lemmas.Bool.Decides.{nat_tests, Decides-eqb}
use Rattle.tptp_lex.specs.declared.signs.Sign.{Sign}
use Rattle.tptp_lex.specs.declared.signs.TheConstants.{SIGNS}
use Rattle.tptp_lex.specs.declared.token.TokenKind.{TokenKind}
use Rattle.tptp_lex.specs.declared.token.TokenKind.TheVariants as kinds
use Rattle.tptp_lex.specs.Words.{is_small, is_capital, is_word, run, lower_length}
use Rattle.tptp_lex.specs.Quoted.{closes}
use Rattle.tptp_lex.specs.Numbers.{is_digit, digit_first, fraction, signed_digits, exponent, unsigned}
use Rattle.tptp_lex.specs.Signs.{spelling, begins}
use Rattle.tptp_lex.specs.Tokens.{token_at, dollar_length, marked_length, sign_token, number_or, number_or_sign}
use Rattle.tptp_lex.specs.Rows.{Run, none, one, is_plain, Inside, closing, plain, escaped, Digits, digits, Fraction, no_fraction, fraction_digits, Exponent, no_exponent, exponent_digits, Row, lower, upper, dollar, dollars, quoted, distinct, number, signed_number, sign}
use Rattle.tptp_lex.proofs.LongestSign.{first_is_longest}

-- bytes that begin with a spelling are the spelling and the rest
pub fits_spelling : (bytes word : List ℕ) → starts_with (λ a b. a == b) bytes word ≡ true → bytes ≡ word ++ drop (length word) bytes
fits_spelling bytes word h = (starts_is Decides-eqb bytes word (starts_with (λ x y. x == y) bytes word) refl).0 h

-- behind one byte, two, three
one_more : (n : ℕ) → 1 + n ≡ suc n
one_more n = omega arith

drop_one : (a n : ℕ) (bytes : List ℕ) → drop (1 + n) (a ∷ bytes) ≡ drop n bytes
drop_one a n bytes = ap (λ (m : ℕ). drop m (a ∷ bytes)) (one_more n)

drop_two : (a b n : ℕ) (bytes : List ℕ) → drop (1 + (1 + n)) (a ∷ b ∷ bytes) ≡ drop n bytes
drop_two a b n bytes = drop_one a (1 + n) (b ∷ bytes) ∙ drop_one b n bytes

drop_three : (a b c n : ℕ) (bytes : List ℕ) → drop (1 + (1 + (1 + n))) (a ∷ b ∷ c ∷ bytes) ≡ drop n bytes
drop_three a b c n bytes = drop_one a (1 + (1 + n)) (b ∷ c ∷ bytes) ∙ drop_two b c n bytes

row_at : (kind : TokenKind) (bytes rest other : List ℕ) → other ≡ rest → Row kind bytes rest → Row kind bytes other
row_at kind bytes rest other e r = subst (λ (xs : List ℕ). Row kind bytes xs) (sym e) r

inside_at : (mark : ℕ) (bytes rest other : List ℕ) → other ≡ rest → Inside mark bytes rest → Inside mark bytes other
inside_at mark bytes rest other e r = subst (λ (xs : List ℕ). Inside mark bytes xs) (sym e) r

-- bytes that pass a test, as many as there are
run_step : (test : ℕ → Bool) (b : ℕ) (bytes : List ℕ) (t : Bool) → test b ≡ t → Run test bytes (drop (run test bytes) bytes) → Run test (b ∷ bytes) (drop (cond t (1 + run test bytes) 0) (b ∷ bytes))
run_step test b bytes true e r = subst (λ (xs : List ℕ). Run test (b ∷ bytes) xs) (sym (drop_one b (run test bytes) bytes)) (one e r)
run_step test b bytes false e r = none

pub run_fits : (test : ℕ → Bool) (bytes : List ℕ) → Run test bytes (drop (run test bytes) bytes)
run_fits test [] = none
run_fits test (b ∷ bytes) = run_step test b bytes (test b) refl (run_fits test bytes)

-- what is found, where something is found, is a row
abbrev pub Fits : List ℕ → Option (TokenKind × ℕ) → Type 0
Fits bytes None = Unit {0}
Fits bytes (Some p) = Row p.0 bytes (drop p.1 bytes)

choose : (bytes : List ℕ) (t : Bool) (x y : Option (TokenKind × ℕ)) → (t ≡ true → Fits bytes x) → (t ≡ false → Fits bytes y) → Fits bytes (cond t x y)
choose bytes true x y p q = p refl
choose bytes false x y p q = q refl

-- a lower, or nothing
abbrev dollar_of : ℕ → TokenKind × ℕ
dollar_of n = (kinds.Dollar, 1 + n)

one_dollar : (b : ℕ) (bytes : List ℕ) (t : Bool) → is_small b ≡ t → Fits (36 ∷ b ∷ bytes) (option_map dollar_of (cond t (Some (1 + run is_word bytes)) None))
one_dollar b bytes true h = row_at kinds.Dollar (36 ∷ b ∷ bytes) _ _ (drop_two 36 b (run is_word bytes) bytes) (dollar h (run_fits is_word bytes))
one_dollar b bytes false h = tt

two_dollars : (b : ℕ) (bytes : List ℕ) (t : Bool) → is_small b ≡ t → Fits (36 ∷ 36 ∷ b ∷ bytes) (option_map dollar_of (option_map (λ n. 1 + n) (cond t (Some (1 + run is_word bytes)) None)))
two_dollars b bytes true h = row_at kinds.Dollar (36 ∷ 36 ∷ b ∷ bytes) _ _ (drop_three 36 36 b (run is_word bytes) bytes) (dollars h (run_fits is_word bytes))
two_dollars b bytes false h = tt

second_dollar : (bytes : List ℕ) → Fits (36 ∷ 36 ∷ bytes) (option_map dollar_of (option_map (λ n. 1 + n) (lower_length bytes)))
second_dollar [] = tt
second_dollar (b ∷ bytes) = two_dollars b bytes (is_small b) refl

dollar_case : (b : ℕ) (bytes : List ℕ) (t : Bool) → (b == 36) ≡ t → Fits (36 ∷ b ∷ bytes) (option_map dollar_of (cond t (option_map (λ n. 1 + n) (lower_length bytes)) (lower_length (b ∷ bytes))))
dollar_case b bytes true h = subst (λ (x : ℕ). Fits (36 ∷ x ∷ bytes) (option_map dollar_of (option_map (λ n. 1 + n) (lower_length bytes)))) (sym (eqb-true b 36 h)) (second_dollar bytes)
dollar_case b bytes false h = one_dollar b bytes (is_small b) refl

dollar_fits : (bytes : List ℕ) → Fits (36 ∷ bytes) (option_map dollar_of (dollar_length bytes))
dollar_fits [] = tt
dollar_fits (b ∷ bytes) = dollar_case b bytes (b == 36) refl

-- up to the closing mark
abbrev Closed : ℕ → List ℕ → Option ℕ → Type 0
Closed mark bytes None = Unit {0}
Closed mark bytes (Some n) = Inside mark bytes (drop n bytes)

plain_byte : (mark b : ℕ) → (b == mark) ≡ false → (b == 92) ≡ false → (nat_lt b 32 || nat_lt 126 b) ≡ false → is_plain mark b ≡ true
plain_byte mark b p q r = grind (arith, nat_tests)

plain_on : (mark b : ℕ) (bytes : List ℕ) (o : Option ℕ) → is_plain mark b ≡ true → Closed mark bytes o → Closed mark (b ∷ bytes) (option_map (λ n. 1 + n) o)
plain_on mark b bytes None h c = tt
plain_on mark b bytes (Some n) h c = inside_at mark (b ∷ bytes) _ _ (drop_one b n bytes) (plain h c)

escaped_on : (mark b : ℕ) (bytes : List ℕ) (o : Option ℕ) → (b == mark || b == 92) ≡ true → Closed mark bytes o → Closed mark (92 ∷ b ∷ bytes) (option_map (λ n. 1 + n) (option_map (λ n. 1 + n) o))
escaped_on mark b bytes None h c = tt
escaped_on mark b bytes (Some n) h c = inside_at mark (92 ∷ b ∷ bytes) _ _ (drop_two 92 b n bytes) (escaped h c)

escaped_case : (mark b : ℕ) (bytes : List ℕ) (t : Bool) → (b == mark || b == 92) ≡ t → Closed mark bytes (closes mark false bytes) → Closed mark (92 ∷ b ∷ bytes) (option_map (λ n. 1 + n) (cond t (option_map (λ n. 1 + n) (closes mark false bytes)) None))
escaped_case mark b bytes true h c = escaped_on mark b bytes (closes mark false bytes) h c
escaped_case mark b bytes false h c = tt

plain_case : (mark b : ℕ) (bytes : List ℕ) (t : Bool) → (b == mark) ≡ false → (b == 92) ≡ false → (nat_lt b 32 || nat_lt 126 b) ≡ t → Closed mark bytes (closes mark false bytes) → Closed mark (b ∷ bytes) (cond t None (option_map (λ n. 1 + n) (closes mark false bytes)))
plain_case mark b bytes true p q r c = tt
plain_case mark b bytes false p q r c = plain_on mark b bytes (closes mark false bytes) (plain_byte mark b p q r) c

-- what follows a backslash
abbrev Behind : ℕ → List ℕ → Type 0
Behind mark bytes = Closed mark (92 ∷ bytes) (option_map (λ n. 1 + n) (closes mark true bytes))

back_case : (mark b : ℕ) (bytes : List ℕ) (t : Bool) → (b == mark) ≡ false → (b == 92) ≡ t → Closed mark bytes (closes mark false bytes) → Behind mark bytes → Closed mark (b ∷ bytes) (cond t (option_map (λ n. 1 + n) (closes mark true bytes)) (cond (nat_lt b 32 || nat_lt 126 b) None (option_map (λ n. 1 + n) (closes mark false bytes))))
back_case mark b bytes true p q c behind = subst (λ (x : ℕ). Closed mark (x ∷ bytes) (option_map (λ n. 1 + n) (closes mark true bytes))) (sym (eqb-true b 92 q)) behind
back_case mark b bytes false p q c behind = plain_case mark b bytes (nat_lt b 32 || nat_lt 126 b) p q refl c

mark_case : (mark b : ℕ) (bytes : List ℕ) (t : Bool) → (b == mark) ≡ t → Closed mark bytes (closes mark false bytes) → Behind mark bytes → Closed mark (b ∷ bytes) (cond t (Some 1) (cond (b == 92) (option_map (λ n. 1 + n) (closes mark true bytes)) (cond (nat_lt b 32 || nat_lt 126 b) None (option_map (λ n. 1 + n) (closes mark false bytes)))))
mark_case mark b bytes true h c behind = closing h
mark_case mark b bytes false h c behind = back_case mark b bytes (b == 92) h refl c behind

both_close : (mark : ℕ) (bytes : List ℕ) → Closed mark bytes (closes mark false bytes) × Behind mark bytes
both_close mark [] = (tt, tt)
both_close mark (b ∷ bytes) =
    let next = both_close mark bytes in
    (mark_case mark b bytes (b == mark) refl next.0 next.1, escaped_case mark b bytes (b == mark || b == 92) refl next.0)

quoted_on : (b : ℕ) (bytes : List ℕ) (o : Option ℕ) → (b == 39) ≡ false → Closed 39 (b ∷ bytes) o → Fits (39 ∷ b ∷ bytes) (option_map (λ n. (kinds.Quoted, 1 + n)) o)
quoted_on b bytes None h c = tt
quoted_on b bytes (Some n) h c = row_at kinds.Quoted (39 ∷ b ∷ bytes) _ _ (drop_one 39 n (b ∷ bytes)) (quoted h c)

quoted_case : (b : ℕ) (bytes : List ℕ) (t : Bool) → (b == 39) ≡ t → Fits (39 ∷ b ∷ bytes) (option_map (λ n. (kinds.Quoted, 1 + n)) (cond t None (closes 39 false (b ∷ bytes))))
quoted_case b bytes true h = tt
quoted_case b bytes false h = quoted_on b bytes (closes 39 false (b ∷ bytes)) h (both_close 39 (b ∷ bytes)).0

quoted_fits : (bytes : List ℕ) → Fits (39 ∷ bytes) (option_map (λ n. (kinds.Quoted, 1 + n)) (marked_length 39 bytes))
quoted_fits [] = tt
quoted_fits (b ∷ bytes) = quoted_case b bytes (b == 39) refl

distinct_on : (b : ℕ) (bytes : List ℕ) (o : Option ℕ) → (b == 34) ≡ false → Closed 34 (b ∷ bytes) o → Fits (34 ∷ b ∷ bytes) (option_map (λ n. (kinds.Distinct, 1 + n)) o)
distinct_on b bytes None h c = tt
distinct_on b bytes (Some n) h c = row_at kinds.Distinct (34 ∷ b ∷ bytes) _ _ (drop_one 34 n (b ∷ bytes)) (distinct h c)

distinct_case : (b : ℕ) (bytes : List ℕ) (t : Bool) → (b == 34) ≡ t → Fits (34 ∷ b ∷ bytes) (option_map (λ n. (kinds.Distinct, 1 + n)) (cond t None (closes 34 false (b ∷ bytes))))
distinct_case b bytes true h = tt
distinct_case b bytes false h = distinct_on b bytes (closes 34 false (b ∷ bytes)) h (both_close 34 (b ∷ bytes)).0

distinct_fits : (bytes : List ℕ) → Fits (34 ∷ bytes) (option_map (λ n. (kinds.Distinct, 1 + n)) (marked_length 34 bytes))
distinct_fits [] = tt
distinct_fits (b ∷ bytes) = distinct_case b bytes (b == 34) refl

-- one digit or more, as many as there are
digits_case : (b : ℕ) (bytes : List ℕ) → is_digit b ≡ true → Digits (b ∷ bytes) (drop (1 + run is_digit bytes) (b ∷ bytes))
digits_case b bytes h = subst (λ (xs : List ℕ). Digits (b ∷ bytes) xs) (sym (drop_one b (run is_digit bytes) bytes)) (digits h (run_fits is_digit bytes))

run_first : (b : ℕ) (bytes : List ℕ) → is_digit b ≡ true → run is_digit (b ∷ bytes) ≡ 1 + run is_digit bytes
run_first b bytes h = ap (λ (t : Bool). cond t (1 + run is_digit bytes) 0) h

digits_fit : (bytes : List ℕ) → digit_first bytes ≡ true → Digits bytes (drop (run is_digit bytes) bytes)
digits_fit [] h = absurd (false≢true h)
digits_fit (b ∷ bytes) h = subst (λ (n : ℕ). Digits (b ∷ bytes) (drop n (b ∷ bytes))) (sym (run_first b bytes h)) (digits_case b bytes h)

fraction_on : (b : ℕ) (bytes : List ℕ) → (b == 46 || b == 47) ≡ true → digit_first bytes ≡ true → Fraction (b ∷ bytes) (drop (1 + run is_digit bytes) (b ∷ bytes))
fraction_on b bytes h d = subst (λ (xs : List ℕ). Fraction (b ∷ bytes) xs) (sym (drop_one b (run is_digit bytes) bytes)) (fraction_digits h (digits_fit bytes d))

fraction_case : (b : ℕ) (bytes : List ℕ) (s t : Bool) → (b == 46 || b == 47) ≡ s → digit_first bytes ≡ t → Fraction (b ∷ bytes) (drop (cond (s && t) (1 + run is_digit bytes) 0) (b ∷ bytes))
fraction_case b bytes true true h d = fraction_on b bytes h d
fraction_case b bytes true false h d = no_fraction
fraction_case b bytes false t h d = no_fraction

fraction_fits : (bytes : List ℕ) → Fraction bytes (drop (fraction bytes) bytes)
fraction_fits [] = no_fraction
fraction_fits (b ∷ bytes) = fraction_case b bytes (b == 46 || b == 47) (digit_first bytes) refl refl

-- a sign and digits, where there are any
Signed : List ℕ → ℕ → Type 0
Signed bytes n = ((b : ℕ) → (b == 69 || b == 101) ≡ true → (n == 0) ≡ false → Exponent (b ∷ bytes) (drop (1 + n) (b ∷ bytes)))

exponent_on : (b c : ℕ) (bytes : List ℕ) → (b == 69 || b == 101) ≡ true → (c == 43 || c == 45) ≡ true → digit_first bytes ≡ true → Exponent (b ∷ c ∷ bytes) (drop (1 + (1 + run is_digit bytes)) (b ∷ c ∷ bytes))
exponent_on b c bytes h g d = subst (λ (xs : List ℕ). Exponent (b ∷ c ∷ bytes) xs) (sym (drop_two b c (run is_digit bytes) bytes)) (exponent_digits h g (digits_fit bytes d))

signed_case : (c : ℕ) (bytes : List ℕ) (s t : Bool) → (c == 43 || c == 45) ≡ s → digit_first bytes ≡ t → Signed (c ∷ bytes) (cond (s && t) (1 + run is_digit bytes) 0)
unfolding Signed
signed_case c bytes true true g d = λ b h z. exponent_on b c bytes h g d
signed_case c bytes true false g d = λ b h z. absurd (true≢false z)
signed_case c bytes false t g d = λ b h z. absurd (true≢false z)

signed_fits : (bytes : List ℕ) → Signed bytes (signed_digits bytes)
unfolding Signed
signed_fits [] = λ b h z. absurd (true≢false z)
signed_fits (c ∷ bytes) = signed_case c bytes (c == 43 || c == 45) (digit_first bytes) refl refl

exponent_case : (b : ℕ) (bytes : List ℕ) (s t : Bool) → (b == 69 || b == 101) ≡ s → (signed_digits bytes == 0) ≡ t → Exponent (b ∷ bytes) (drop (cond (s && not t) (1 + signed_digits bytes) 0) (b ∷ bytes))
unfolding Signed
exponent_case b bytes true true h z = no_exponent
exponent_case b bytes true false h z = signed_fits bytes b h z
exponent_case b bytes false t h z = no_exponent

exponent_fits : (bytes : List ℕ) → Exponent bytes (drop (exponent bytes) bytes)
exponent_fits [] = no_exponent
exponent_fits (b ∷ bytes) = exponent_case b bytes (b == 69 || b == 101) (signed_digits bytes == 0) refl refl

-- behind three parts
three_drops : (bytes : List ℕ) (whole part power : ℕ) → drop power (drop part (drop whole bytes)) ≡ drop (whole + part + power) bytes
three_drops bytes whole part power = ap (drop power) (drop-drop part whole bytes) ∙ drop-drop power (whole + part) bytes

unsigned_fits : (bytes : List ℕ) → digit_first bytes ≡ true → Row kinds.Number bytes (drop (unsigned bytes) bytes)
unsigned_fits bytes h =
    let whole : ℕ = run is_digit bytes in
    let part : ℕ = fraction (drop whole bytes) in
    let power : ℕ = exponent (drop part (drop whole bytes)) in
    subst (λ (r : List ℕ). Row kinds.Number bytes r) (three_drops bytes whole part power)
    (number (digits_fit bytes h) (fraction_fits (drop whole bytes)) (exponent_fits (drop part (drop whole bytes))))

signed_unsigned : (b : ℕ) (bytes rest : List ℕ) → (b == 43 || b == 45) ≡ true → digit_first bytes ≡ true → rest ≡ drop (unsigned bytes) bytes → Row kinds.Number (b ∷ bytes) rest
signed_unsigned b bytes rest h d e =
    let whole : ℕ = run is_digit bytes in
    let part : ℕ = fraction (drop whole bytes) in
    let power : ℕ = exponent (drop part (drop whole bytes)) in
    subst (λ (r : List ℕ). Row kinds.Number (b ∷ bytes) r) (three_drops bytes whole part power ∙ sym e)
    (signed_number h (digits_fit bytes d) (fraction_fits (drop whole bytes)) (exponent_fits (drop part (drop whole bytes))))

sign_fits : (bytes : List ℕ) (o : Option Sign) → o ≡ find (begins bytes) SIGNS → Fits bytes (sign_token o)
sign_fits bytes None e = tt
sign_fits bytes (Some s) e = sign (fits_spelling bytes (spelling s) (first_is_longest bytes s (sym e)).begins_with)

number_case : (b : ℕ) (bytes : List ℕ) (s t : Bool) (o : Option (TokenKind × ℕ)) → (b == 43 || b == 45) ≡ s → digit_first bytes ≡ t → Fits (b ∷ bytes) o → Fits (b ∷ bytes) (number_or (cond (s && t) (Some (1 + unsigned bytes)) None) o)
number_case b bytes true true o h d f = signed_unsigned b bytes _ h d (drop_one b (unsigned bytes) bytes)
number_case b bytes true false o h d f = f
number_case b bytes false t o h d f = f

digit_case : (b : ℕ) (bytes : List ℕ) (t : Bool) (o : Option (TokenKind × ℕ)) → is_digit b ≡ t → Fits (b ∷ bytes) o → Fits (b ∷ bytes) (number_or (cond t (Some (unsigned (b ∷ bytes))) (cond ((b == 43 || b == 45) && digit_first bytes) (Some (1 + unsigned bytes)) None)) o)
digit_case b bytes true o h f = unsigned_fits (b ∷ bytes) h
digit_case b bytes false o h f = number_case b bytes (b == 43 || b == 45) (digit_first bytes) o refl refl f

number_or_sign_fits : (b : ℕ) (bytes : List ℕ) → Fits (b ∷ bytes) (number_or_sign (b ∷ bytes))
number_or_sign_fits b bytes = digit_case b bytes (is_digit b) (sign_token (find (begins (b ∷ bytes)) SIGNS)) refl (sign_fits (b ∷ bytes) (find (begins (b ∷ bytes)) SIGNS) refl)

here : (c b : ℕ) (bytes : List ℕ) (o : Option (TokenKind × ℕ)) → (b == c) ≡ true → Fits (c ∷ bytes) o → Fits (b ∷ bytes) o
here c b bytes o h f = subst (λ (x : ℕ). Fits (x ∷ bytes) o) (sym (eqb-true b c h)) f

pub token_fits : (b : ℕ) (bytes : List ℕ) → Fits (b ∷ bytes) (token_at (b ∷ bytes))
token_fits b bytes =
    choose (b ∷ bytes) (is_small b) _ _ (λ h. row_at kinds.Lower (b ∷ bytes) _ _ (drop_one b (run is_word bytes) bytes) (lower h (run_fits is_word bytes)))
    (λ _. choose (b ∷ bytes) (is_capital b) _ _ (λ h. row_at kinds.Upper (b ∷ bytes) _ _ (drop_one b (run is_word bytes) bytes) (upper h (run_fits is_word bytes)))
    (λ _. choose (b ∷ bytes) (b == 36) _ _ (λ h. here 36 b bytes _ h (dollar_fits bytes))
    (λ _. choose (b ∷ bytes) (b == 39) _ _ (λ h. here 39 b bytes _ h (quoted_fits bytes))
    (λ _. choose (b ∷ bytes) (b == 34) _ _ (λ h. here 34 b bytes _ h (distinct_fits bytes))
    (λ _. number_or_sign_fits b bytes)))))

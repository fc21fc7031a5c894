-- No row of the table goes on further than what the lexer takes.
use Rattle.std.proofs.Common.{◌≡◌, ℕ, suc, ◌+◌, ◌-◌, ◌<◌, ◌≤◌, Bool, true, false, cond, List, [], ◌∷◌, ◌++◌, length, take, drop, length-drop, Option, Some, None, refl, sym, ◌∙◌, ap, subst, arith, inl, inr, ◌⊎◌}
use Rattle.std.proofs.Math.Seq.{take-append_seam}
use Rattle.std.proofs.lemmas.Bool.{cases_lt, and_from, false≢true, true≢false}
use Rattle.std.specs.Prelude.{◌==◌, ◌&&◌, ◌||◌, not, nat_lt}
use Rattle.std.specs.Option.{option_map}
use Rattle.std.specs.List.{find}
use Rattle.std.proofs.lemmas.List.{length-append}
use Rattle.std.proofs.lemmas.Slice.Eq.{starts_is}
use Rattle.std.proofs.lemmas.Bool.Decides.{nat_tests, Decides-eqb}
use Rattle.tptp_lex.specs.declared.signs.Sign.{Sign}
use Rattle.tptp_lex.specs.declared.signs.Sign.TheVariants as signs
use Rattle.tptp_lex.specs.declared.signs.TheConstants.{SIGNS}
use Rattle.tptp_lex.specs.declared.token.TokenKind.{TokenKind}
use Rattle.tptp_lex.specs.declared.token.TokenKind.TheVariants as kinds
use Rattle.tptp_lex.specs.Words.{is_small, is_capital, is_word, run}
use Rattle.tptp_lex.specs.Quoted.{closes}
use Rattle.tptp_lex.specs.Numbers.{is_digit, digit_first, fraction, signed_digits, exponent, unsigned}
use Rattle.tptp_lex.specs.Signs.{spelling, begins}
use Rattle.tptp_lex.specs.Tokens.{token_at, marked_length, sign_token, number_or, number_or_sign}
use Rattle.tptp_lex.specs.Rows.{Run, none, one, is_plain, Inside, closing, plain, escaped, Digits, digits, Fraction, no_fraction, fraction_digits, Exponent, no_exponent, exponent_digits, Row, lower, upper, dollar, dollars, quoted, distinct, number, signed_number, sign, IsLongest, NoRow}
use Rattle.tptp_lex.proofs.LongestSign.{first_is_longest, sign_found, has_byte, same_spelling}
use Rattle.tptp_lex.proofs.RowsFit.{token_fits, Fits}

-- tests of one byte that rule each other out
capital_small : (b : ℕ) → is_capital b ≡ true → is_small b ≡ false
capital_small b h = grind (arith, nat_tests)

small_dollar : (b : ℕ) → is_small b ≡ true → (b == 36) ≡ false
small_dollar b h = grind (arith, nat_tests)

digit_small : (b : ℕ) → is_digit b ≡ true → is_small b ≡ false
digit_small b h = grind (arith, nat_tests)

digit_capital : (b : ℕ) → is_digit b ≡ true → is_capital b ≡ false
digit_capital b h = grind (arith, nat_tests)

digit_not : (b c : ℕ) → c < 48 → is_digit b ≡ true → (b == c) ≡ false
digit_not b c lt h = grind (arith, nat_tests)

digit_stroke : (b : ℕ) → is_digit b ≡ true → (b == 46 || b == 47) ≡ true → ⊥
digit_stroke b h g = grind (arith, nat_tests)

digit_letter : (b : ℕ) → is_digit b ≡ true → (b == 69 || b == 101) ≡ true → ⊥
digit_letter b h g = grind (arith, nat_tests)

letter_stroke : (b : ℕ) → (b == 69 || b == 101) ≡ true → (b == 46 || b == 47) ≡ false
letter_stroke b h = grind (arith, nat_tests)

sign_small : (b : ℕ) → (b == 43 || b == 45) ≡ true → is_small b ≡ false
sign_small b h = grind (arith, nat_tests)

sign_capital : (b : ℕ) → (b == 43 || b == 45) ≡ true → is_capital b ≡ false
sign_capital b h = grind (arith, nat_tests)

sign_not : (b c : ℕ) → c < 43 → (b == 43 || b == 45) ≡ true → (b == c) ≡ false
sign_not b c lt h = grind (arith, nat_tests)

sign_digit : (b : ℕ) → (b == 43 || b == 45) ≡ true → is_digit b ≡ false
sign_digit b h = grind (arith, nat_tests)

plain_mark : (mark b : ℕ) → is_plain mark b ≡ true → (b == mark) ≡ false
plain_mark mark b h = grind (arith, nat_tests)

plain_back : (mark b : ℕ) → is_plain mark b ≡ true → (b == 92) ≡ false
plain_back mark b h = grind (arith, nat_tests)

plain_range : (mark b : ℕ) → is_plain mark b ≡ true → (nat_lt b 32 || nat_lt 126 b) ≡ false
plain_range mark b h = grind (arith, nat_tests)

-- what is found goes at least as far as the rest, and further if it is of another kind
abbrev Reaches : TokenKind → List ℕ → List ℕ → Option (TokenKind × ℕ) → Type 0
Reaches kind bytes rest None = ⊥
Reaches kind bytes rest (Some p) = (length bytes ≤ p.1 + length rest) × ((p.0 ≡ kind) ⊎ (length bytes < p.1 + length rest))

yes : (kind : TokenKind) (bytes rest : List ℕ) (t : Bool) (x y : Option (TokenKind × ℕ)) → t ≡ true → Reaches kind bytes rest x → Reaches kind bytes rest (cond t x y)
yes kind bytes rest true x y h r = r
yes kind bytes rest false x y h r = absurd (false≢true h)

no : (kind : TokenKind) (bytes rest : List ℕ) (t : Bool) (x y : Option (TokenKind × ℕ)) → t ≡ false → Reaches kind bytes rest y → Reaches kind bytes rest (cond t x y)
no kind bytes rest true x y h r = absurd (true≢false h)
no kind bytes rest false x y h r = r

run_most : (test : ℕ → Bool) (bytes rest : List ℕ) → Run test bytes rest → length bytes ≤ run test bytes + length rest
run_most test bytes rest none = omega arith
run_most test bytes rest (one {b = b} {bytes = others} h r) =
    subst (λ (t : Bool). length (b ∷ others) ≤ cond t (1 + run test others) 0 + length rest) (sym h) (let most = run_most test others rest r in omega arith)

-- dollars
abbrev dollar_of : ℕ → TokenKind × ℕ
dollar_of n = (kinds.Dollar, 1 + n)

dollar_word : (bytes rest : List ℕ) (n : ℕ) (t : Bool) → t ≡ true → length bytes ≤ 1 + (1 + n) + length rest → Reaches kinds.Dollar bytes rest (option_map dollar_of (cond t (Some (1 + n)) None))
dollar_word bytes rest n true h r = (r, inl refl)
dollar_word bytes rest n false h r = absurd (false≢true h)

dollar_first : (bytes rest : List ℕ) (t : Bool) (x y : Option ℕ) → t ≡ false → Reaches kinds.Dollar bytes rest (option_map dollar_of y) → Reaches kinds.Dollar bytes rest (option_map dollar_of (cond t x y))
dollar_first bytes rest true x y h r = absurd (true≢false h)
dollar_first bytes rest false x y h r = r

dollars_word : (bytes rest : List ℕ) (n : ℕ) (t : Bool) → t ≡ true → length bytes ≤ 1 + (1 + (1 + n)) + length rest → Reaches kinds.Dollar bytes rest (option_map dollar_of (option_map (λ n. 1 + n) (cond t (Some (1 + n)) None)))
dollars_word bytes rest n true h r = (r, inl refl)
dollars_word bytes rest n false h r = absurd (false≢true h)

-- up to the closing mark
abbrev Closes : List ℕ → List ℕ → Option ℕ → Type 0
Closes bytes rest None = ⊥
Closes bytes rest (Some n) = length bytes ≤ n + length rest

closes_yes : (bytes rest : List ℕ) (t : Bool) (x y : Option ℕ) → t ≡ true → Closes bytes rest x → Closes bytes rest (cond t x y)
closes_yes bytes rest true x y h r = r
closes_yes bytes rest false x y h r = absurd (false≢true h)

closes_no : (bytes rest : List ℕ) (t : Bool) (x y : Option ℕ) → t ≡ false → Closes bytes rest y → Closes bytes rest (cond t x y)
closes_no bytes rest true x y h r = absurd (true≢false h)
closes_no bytes rest false x y h r = r

one_on : (b : ℕ) (bytes rest : List ℕ) (o : Option ℕ) → Closes bytes rest o → Closes (b ∷ bytes) rest (option_map (λ n. 1 + n) o)
one_on b bytes rest None c = c
one_on b bytes rest (Some n) c = omega arith

closes_most : (mark : ℕ) (bytes rest : List ℕ) → (92 == mark) ≡ false → Inside mark bytes rest → Closes bytes rest (closes mark false bytes)
closes_most mark bytes rest m (closing {b = b} h) = closes_yes (b ∷ rest) rest (b == mark) _ _ h (omega arith)
closes_most mark bytes rest m (plain {b = b} {bytes = others} h i) =
    closes_no (b ∷ others) rest (b == mark) _ _ (plain_mark mark b h)
    (closes_no (b ∷ others) rest (b == 92) _ _ (plain_back mark b h)
    (closes_no (b ∷ others) rest (nat_lt b 32 || nat_lt 126 b) _ _ (plain_range mark b h)
    (one_on b others rest (closes mark false others) (closes_most mark others rest m i))))
closes_most mark bytes rest m (escaped {b = b} {bytes = others} h i) =
    closes_no (92 ∷ b ∷ others) rest (92 == mark) _ _ m
    (one_on 92 (b ∷ others) rest (closes mark true (b ∷ others))
    (closes_yes (b ∷ others) rest (b == mark || b == 92) _ _ h
    (one_on b others rest (closes mark false others) (closes_most mark others rest m i))))

quoted_on : (bytes rest : List ℕ) (o : Option ℕ) → Closes bytes rest o → Reaches kinds.Quoted (39 ∷ bytes) rest (option_map (λ n. (kinds.Quoted, 1 + n)) o)
quoted_on bytes rest None c = c
quoted_on bytes rest (Some n) c = (omega arith, inl refl)

distinct_on : (bytes rest : List ℕ) (o : Option ℕ) → Closes bytes rest o → Reaches kinds.Distinct (34 ∷ bytes) rest (option_map (λ n. (kinds.Distinct, 1 + n)) o)
distinct_on bytes rest None c = c
distinct_on bytes rest (Some n) c = (omega arith, inl refl)

-- digits, and what may follow them
run_first : (b : ℕ) (bytes : List ℕ) → is_digit b ≡ true → run is_digit (b ∷ bytes) ≡ suc (run is_digit bytes)
run_first b bytes h = (ap (λ (t : Bool). cond t (1 + run is_digit bytes) 0) h ∙ (let e : 1 + run is_digit bytes ≡ suc (run is_digit bytes) = omega arith in e))

no_digits : (bytes : List ℕ) → digit_first bytes ≡ false → run is_digit bytes ≡ 0
no_digits [] h = refl
no_digits (b ∷ bytes) h = ap (λ (t : Bool). cond t (1 + run is_digit bytes) 0) h

stop_here : (more : List ℕ → ℕ) (bytes rest : List ℕ) (t : Bool) → digit_first bytes ≡ t → length bytes ≤ more bytes + length rest → (digit_first bytes ≡ true → length bytes ≤ length rest) → length bytes ≤ run is_digit bytes + more (drop (run is_digit bytes) bytes) + length rest
stop_here more bytes rest true is most digit = (let le = digit is in omega arith)
stop_here more bytes rest false is most digit = subst (λ (n : ℕ). length bytes ≤ n + more (drop n bytes) + length rest) (sym (no_digits bytes is)) (omega arith)

then_most : (more : List ℕ → ℕ) (bytes middle rest : List ℕ) → Run is_digit bytes middle → length middle ≤ more middle + length rest → (digit_first middle ≡ true → length middle ≤ length rest) → length bytes ≤ run is_digit bytes + more (drop (run is_digit bytes) bytes) + length rest
then_most more bytes middle rest none most digit = stop_here more bytes rest (digit_first bytes) refl most digit
then_most more bytes middle rest (one {b = b} {bytes = others} h r) most digit =
    subst (λ (n : ℕ). length (b ∷ others) ≤ n + more (drop n (b ∷ others)) + length rest) (sym (run_first b others h))
    (let next = then_most more others middle rest r most digit in omega arith)

digits_most : (bytes rest : List ℕ) → Digits bytes rest → length bytes ≤ run is_digit bytes + length rest
digits_most bytes rest (digits {b = b} {bytes = others} h r) = run_most is_digit (b ∷ others) rest (one h r)

digits_first : (bytes rest : List ℕ) → Digits bytes rest → digit_first bytes ≡ true
digits_first bytes rest (digits h r) = h

signed_given : (c : ℕ) (bytes : List ℕ) → (c == 43 || c == 45) ≡ true → digit_first bytes ≡ true → signed_digits (c ∷ bytes) ≡ suc (run is_digit bytes)
signed_given c bytes h d =
    ap (λ (t : Bool). cond (t && digit_first bytes) (1 + run is_digit bytes) 0) h
    ∙ ap (λ (t : Bool). cond t (1 + run is_digit bytes) 0) d
    ∙ (let e : 1 + run is_digit bytes ≡ suc (run is_digit bytes) = omega arith in e)

not_zero : (n : ℕ) → (suc n == 0) ≡ false
not_zero n = grind (arith, nat_tests)

exponent_given : (b n : ℕ) (bytes : List ℕ) → (b == 69 || b == 101) ≡ true → signed_digits bytes ≡ suc n → exponent (b ∷ bytes) ≡ 1 + suc n
exponent_given b n bytes h e =
    ap (λ (t : Bool). cond (t && not (signed_digits bytes == 0)) (1 + signed_digits bytes) 0) h
    ∙ ap (λ (m : ℕ). cond (not (m == 0)) (1 + m) 0) e
    ∙ ap (λ (t : Bool). cond (not t) (1 + suc n) 0) (not_zero n)

exponent_most : (bytes rest : List ℕ) → Exponent bytes rest → length bytes ≤ exponent bytes + length rest
exponent_most bytes rest no_exponent = omega arith
exponent_most bytes rest (exponent_digits {b = b} {sign = c} {bytes = others} h g d) =
    subst (λ (n : ℕ). length (b ∷ c ∷ others) ≤ n + length rest)
    (sym (exponent_given b (run is_digit others) (c ∷ others) h (signed_given c others g (digits_first others rest d))))
    (let most = digits_most others rest d in omega arith)

exponent_digit : (bytes rest : List ℕ) → Exponent bytes rest → digit_first bytes ≡ true → length bytes ≤ length rest
exponent_digit bytes rest no_exponent h = omega arith
exponent_digit bytes rest (exponent_digits {b = b} g s d) h = absurd (digit_letter b h g)

-- what follows the digits of a number
abbrev behind_digits : List ℕ → ℕ
behind_digits bytes = fraction bytes + exponent (drop (fraction bytes) bytes)

fraction_given : (b : ℕ) (bytes : List ℕ) → (b == 46 || b == 47) ≡ true → digit_first bytes ≡ true → fraction (b ∷ bytes) ≡ suc (run is_digit bytes)
fraction_given b bytes h d =
    ap (λ (t : Bool). cond (t && digit_first bytes) (1 + run is_digit bytes) 0) h
    ∙ ap (λ (t : Bool). cond t (1 + run is_digit bytes) 0) d
    ∙ (let e : 1 + run is_digit bytes ≡ suc (run is_digit bytes) = omega arith in e)

no_fraction_here : (b : ℕ) (bytes : List ℕ) → (b == 46 || b == 47) ≡ false → fraction (b ∷ bytes) ≡ 0
no_fraction_here b bytes h = ap (λ (t : Bool). cond (t && digit_first bytes) (1 + run is_digit bytes) 0) h

power_only : (bytes rest : List ℕ) → Exponent bytes rest → length bytes ≤ behind_digits bytes + length rest
power_only bytes rest no_exponent = omega arith
power_only bytes rest (exponent_digits {b = b} {sign = c} {bytes = others} h g d) =
    subst (λ (n : ℕ). length (b ∷ c ∷ others) ≤ n + exponent (drop n (b ∷ c ∷ others)) + length rest)
    (sym (no_fraction_here b (c ∷ others) (letter_stroke b h)))
    (let most = exponent_most (b ∷ c ∷ others) rest (exponent_digits h g d) in omega arith)

fraction_most : (bytes middle rest : List ℕ) → Fraction bytes middle → Exponent middle rest → length bytes ≤ behind_digits bytes + length rest
fraction_most bytes middle rest no_fraction e = power_only bytes rest e
fraction_most bytes middle rest (fraction_digits {b = b} h (digits {b = d} {bytes = others} g r)) e =
    subst (λ (n : ℕ). length (b ∷ d ∷ others) ≤ n + exponent (drop n (b ∷ d ∷ others)) + length rest)
    (sym (fraction_given b (d ∷ others) h g))
    (let most = then_most exponent (d ∷ others) middle rest (one g r) (exponent_most middle rest e) (exponent_digit middle rest e) in omega arith)

fraction_digit : (bytes middle rest : List ℕ) → Fraction bytes middle → Exponent middle rest → digit_first bytes ≡ true → length bytes ≤ length rest
fraction_digit bytes middle rest no_fraction e h = exponent_digit bytes rest e h
fraction_digit bytes middle rest (fraction_digits {b = b} g d) e h = absurd (digit_stroke b h g)

unsigned_most : (bytes middle behind rest : List ℕ) → Digits bytes middle → Fraction middle behind → Exponent behind rest → length bytes ≤ unsigned bytes + length rest
unsigned_most bytes middle behind rest (digits {b = b} {bytes = others} h r) f e =
    let most = then_most behind_digits (b ∷ others) middle rest (one h r) (fraction_most middle behind rest f e) (fraction_digit middle behind rest f e) in omega arith

number_yes : (bytes rest : List ℕ) (t : Bool) (n : ℕ) (y : Option ℕ) (o : Option (TokenKind × ℕ)) → t ≡ true → length bytes ≤ n + length rest → Reaches kinds.Number bytes rest (number_or (cond t (Some n) y) o)
number_yes bytes rest true n y o h le = (le, inl refl)
number_yes bytes rest false n y o h le = absurd (false≢true h)

number_no : (kind : TokenKind) (bytes rest : List ℕ) (t : Bool) (x y : Option ℕ) (o : Option (TokenKind × ℕ)) → t ≡ false → Reaches kind bytes rest (number_or y o) → Reaches kind bytes rest (number_or (cond t x y) o)
number_no kind bytes rest true x y o h r = absurd (true≢false h)
number_no kind bytes rest false x y o h r = r

-- a byte that begins no other row
other_first : (kind : TokenKind) (b : ℕ) (bytes rest : List ℕ) → is_small b ≡ false → is_capital b ≡ false → (b == 36) ≡ false → (b == 39) ≡ false → (b == 34) ≡ false → Reaches kind (b ∷ bytes) rest (number_or_sign (b ∷ bytes)) → Reaches kind (b ∷ bytes) rest (token_at (b ∷ bytes))
other_first kind b bytes rest p q d s t r =
    no kind (b ∷ bytes) rest (is_small b) _ _ p
    (no kind (b ∷ bytes) rest (is_capital b) _ _ q
    (no kind (b ∷ bytes) rest (b == 36) _ _ d
    (no kind (b ∷ bytes) rest (b == 39) _ _ s
    (no kind (b ∷ bytes) rest (b == 34) _ _ t r))))

-- signs
abbrev sign_here : List ℕ → Option (TokenKind × ℕ)
sign_here bytes = sign_token (find (begins bytes) SIGNS)

sign_begins : (s : Sign) (rest : List ℕ) → begins (spelling s ++ rest) s ≡ true
sign_begins s rest = (starts_is Decides-eqb (spelling s ++ rest) (spelling s) (begins (spelling s ++ rest) s) refl).1 rest refl

unsigned_some : (bytes : List ℕ) → digit_first bytes ≡ true → 1 ≤ unsigned bytes
unsigned_some [] h = absurd (false≢true h)
unsigned_some (b ∷ bytes) h = (let first = run_first b bytes h in omega arith)

same_front : (s t : Sign) (rest behind : List ℕ) → spelling s ++ rest ≡ spelling t ++ behind → length (spelling s) ≡ length (spelling t) → spelling s ≡ spelling t
same_front s t rest behind e n =
    sym (take-append_seam (spelling s) rest)
    ∙ ap (take (length (spelling s))) e
    ∙ ap (λ (m : ℕ). take m (spelling t ++ behind)) n
    ∙ take-append_seam (spelling t) behind

found_kind : (s t : Sign) (rest : List ℕ) → begins (spelling s ++ rest) t ≡ true → length (spelling s) ≤ length (spelling t) → (length (spelling s) < length (spelling t)) ⊎ (length (spelling t) ≤ length (spelling s)) → ◌⊎◌ (◌≡◌ {A = TokenKind} (kinds.Sign t) (kinds.Sign s)) (length (spelling s ++ rest) < length (spelling t) + length rest)
found_kind s t rest h le (inl lt) = (let sum : length (spelling s ++ rest) ≡ length (spelling s) + length rest = length-append (spelling s) rest in inr (omega arith))
found_kind s t rest h le (inr ge) =
    let e = (starts_is Decides-eqb (spelling s ++ rest) (spelling t) (begins (spelling s ++ rest) t) refl).0 h in
    let n : length (spelling s) ≡ length (spelling t) = omega arith in
    inl (ap (λ (u : Sign). kinds.Sign u) (sym (same_spelling s t (same_front s t rest _ e n))))

found_case : (s : Sign) (rest : List ℕ) (o : Option Sign) → find (begins (spelling s ++ rest)) SIGNS ≡ o → Reaches (kinds.Sign s) (spelling s ++ rest) rest (sign_token o)
found_case s rest None e = sign_found (spelling s ++ rest) s (sign_begins s rest) e
found_case s rest (Some t) e =
    let found = first_is_longest (spelling s ++ rest) t e in
    let le = found.longest s (sign_begins s rest) in
    let sum : length (spelling s ++ rest) ≡ length (spelling s) + length rest = length-append (spelling s) rest in
    (omega arith, found_kind s t rest found.begins_with le (cases_lt (length (spelling s)) (length (spelling t))))

plus_case : (kind : TokenKind) (c : ℕ) (rest : List ℕ) (t : Bool) (o : Option (TokenKind × ℕ)) → digit_first rest ≡ t → Reaches kind (c ∷ rest) rest o → Reaches kind (c ∷ rest) rest (number_or (cond t (Some (1 + unsigned rest)) None) o)
plus_case kind c rest true o h r = (let some = unsigned_some rest h in (omega arith, inr (omega arith)))
plus_case kind c rest false o h r = r

sign_reaches : (s : Sign) (rest : List ℕ) → Reaches (kinds.Sign s) (spelling s ++ rest) rest (sign_here (spelling s ++ rest)) → Reaches (kinds.Sign s) (spelling s ++ rest) rest (token_at (spelling s ++ rest))
sign_reaches signs.Open rest r = r
sign_reaches signs.Close rest r = r
sign_reaches signs.OpenList rest r = r
sign_reaches signs.CloseList rest r = r
sign_reaches signs.Comma rest r = r
sign_reaches signs.Stop rest r = r
sign_reaches signs.Colon rest r = r
sign_reaches signs.And rest r = r
sign_reaches signs.Or rest r = r
sign_reaches signs.Not rest r = r
sign_reaches signs.Implies rest r = r
sign_reaches signs.If rest r = r
sign_reaches signs.Iff rest r = r
sign_reaches signs.Xor rest r = r
sign_reaches signs.NotAnd rest r = r
sign_reaches signs.NotOr rest r = r
sign_reaches signs.Equal rest r = r
sign_reaches signs.NotEqual rest r = r
sign_reaches signs.All rest r = r
sign_reaches signs.Exists rest r = r
sign_reaches signs.AllTypes rest r = r
sign_reaches signs.Arrow rest r = r
sign_reaches signs.Star rest r = r
sign_reaches signs.At rest r = r
sign_reaches signs.Caret rest r = r
sign_reaches signs.Plus rest r = plus_case (kinds.Sign signs.Plus) 43 rest (digit_first rest) (sign_here (43 ∷ rest)) refl r
sign_reaches signs.Minus rest r = plus_case (kinds.Sign signs.Minus) 45 rest (digit_first rest) (sign_here (45 ∷ rest)) refl r

reaches : (kind : TokenKind) (bytes rest : List ℕ) → Row kind bytes rest → Reaches kind bytes rest (token_at bytes)
reaches kind bytes rest (lower {b = b} {bytes = others} h r) =
    yes kinds.Lower (b ∷ others) rest (is_small b) _ _ h (let most = run_most is_word others rest r in (omega arith, inl refl))
reaches kind bytes rest (upper {b = b} {bytes = others} h r) =
    no kinds.Upper (b ∷ others) rest (is_small b) _ _ (capital_small b h) (yes kinds.Upper (b ∷ others) rest (is_capital b) _ _ h (let most = run_most is_word others rest r in (omega arith, inl refl)))
reaches kind bytes rest (dollar {b = b} {bytes = others} h r) =
    dollar_first (36 ∷ b ∷ others) rest (b == 36) _ _ (small_dollar b h)
    (dollar_word (36 ∷ b ∷ others) rest (run is_word others) (is_small b) h (let most = run_most is_word others rest r in omega arith))
reaches kind bytes rest (dollars {b = b} {bytes = others} h r) =
    dollars_word (36 ∷ 36 ∷ b ∷ others) rest (run is_word others) (is_small b) h (let most = run_most is_word others rest r in omega arith)
reaches kind bytes rest (quoted {b = b} {bytes = others} h i) =
    quoted_on (b ∷ others) rest (marked_length 39 (b ∷ others)) (closes_no (b ∷ others) rest (b == 39) _ _ h (closes_most 39 (b ∷ others) rest refl i))
reaches kind bytes rest (distinct {b = b} {bytes = others} h i) =
    distinct_on (b ∷ others) rest (marked_length 34 (b ∷ others)) (closes_no (b ∷ others) rest (b == 34) _ _ h (closes_most 34 (b ∷ others) rest refl i))
reaches kind bytes rest (number {middle = middle} {behind = behind} (digits {b = b} {bytes = others} h r) f e) =
    other_first kinds.Number b others rest (digit_small b h) (digit_capital b h) (digit_not b 36 (omega arith) h) (digit_not b 39 (omega arith) h) (digit_not b 34 (omega arith) h)
    (number_yes (b ∷ others) rest (is_digit b) (unsigned (b ∷ others)) _ _ h (unsigned_most (b ∷ others) middle behind rest (digits h r) f e))
reaches kind bytes rest (signed_number {sign = c} {bytes = others} {middle = middle} {behind = behind} h d f e) =
    other_first kinds.Number c others rest (sign_small c h) (sign_capital c h) (sign_not c 36 (omega arith) h) (sign_not c 39 (omega arith) h) (sign_not c 34 (omega arith) h)
    (number_no kinds.Number (c ∷ others) rest (is_digit c) _ _ _ (sign_digit c h)
    (number_yes (c ∷ others) rest ((c == 43 || c == 45) && digit_first others) (1 + unsigned others) _ _ (and_from (c == 43 || c == 45) (digit_first others) h (digits_first others middle d))
    (let most = unsigned_most others middle behind rest d f e in omega arith)))
reaches kind bytes rest (sign {s = s} e) =
    subst (λ (xs : List ℕ). Reaches (kinds.Sign s) xs rest (token_at xs)) (sym e) (sign_reaches s rest (found_case s rest (find (begins (spelling s ++ rest)) SIGNS) refl))

-- what the table has is the longest of its rows
pub is_longest : (b : ℕ) (bytes : List ℕ) (kind : TokenKind) (n : ℕ) → token_at (b ∷ bytes) ≡ Some (kind, n) → IsLongest (b ∷ bytes) kind (drop n (b ∷ bytes))
is_longest b bytes kind n e = record {
  row = subst (λ (o : Option (TokenKind × ℕ)). Fits (b ∷ bytes) o) e (token_fits b bytes);
  longest = λ k behind r. (
      let far : length (b ∷ bytes) ≤ n + length behind = (subst (λ (o : Option (TokenKind × ℕ)). Reaches k (b ∷ bytes) behind o) e (reaches k (b ∷ bytes) behind r)).0 in
      let left : length (drop n (b ∷ bytes)) ≡ length (b ∷ bytes) - n = length-drop n (b ∷ bytes) in
      omega arith);
}

pub no_row : (bytes : List ℕ) → token_at bytes ≡ None → NoRow bytes
no_row bytes e kind rest r = subst (λ (o : Option (TokenKind × ℕ)). Reaches kind bytes rest o) e (reaches kind bytes rest r)

-- no row has the empty text
pub empty_row : (kind : TokenKind) (rest : List ℕ) → Row kind [] rest → ⊥
empty_row kind rest (number {middle = middle} d f e) = false≢true (digits_first [] middle d)
empty_row kind rest (sign {s = s} e) =
    let some = has_byte s in
    let sum : 0 ≡ length (spelling s) + length rest = ap length e ∙ length-append (spelling s) rest in
    absurd (omega arith)

not_further : (k kind : TokenKind) (m n : ℕ) → n ≤ m → (k ≡ kind) ⊎ (m < n) → k ≡ kind
not_further k kind m n le (inl e) = e
not_further k kind m n le (inr lt) = absurd (omega arith)

-- what the longest row has is what the table has
pub same_longest : (b : ℕ) (bytes : List ℕ) (kind k : TokenKind) (n : ℕ) (rest : List ℕ) → token_at (b ∷ bytes) ≡ Some (k, n) → n ≤ length (b ∷ bytes) → IsLongest (b ∷ bytes) kind rest → (k ≡ kind) × (length rest + n ≡ length (b ∷ bytes))
same_longest b bytes kind k n rest e within l =
    let far = subst (λ (o : Option (TokenKind × ℕ)). Reaches kind (b ∷ bytes) rest o) e (reaches kind (b ∷ bytes) rest l.row) in
    let most = l.longest k (drop n (b ∷ bytes)) (is_longest b bytes k n e).row in
    let left : length (drop n (b ∷ bytes)) ≡ length (b ∷ bytes) - n = length-drop n (b ∷ bytes) in
    let le = far.0 in
    (not_further k kind (length (b ∷ bytes)) (n + length rest) (omega arith) far.1, omega arith)

-- Words and numbers in bytes.
use Rattle.std.proofs.Common.{◌≡◌, ℕ, ◌+◌, ◌/◌, ◌%◌, ◌^◌, ◌<◌, ◌≤◌, Bool, true, false, cond, ◌||◌, not, List, [], ◌∷◌, ◌++◌, length, refl, ◌∙◌, ap, arith, inl, inr, ◌⊎◌}
use Rattle.std.specs.Prelude.{◌==◌, nat_le, None, codes}
use Rattle.std.specs.Fmt.{decimal}
use Rattle.std.specs.Str.{bytes_eq}
use Rattle.std.proofs.lemmas.Bool.{both_ways, cases_Bool, and_parts, and_from, ne_eqb, le-leb, leb-true, eqb-true, or_cases}
use Rattle.std.proofs.lemmas.Fmt.{decimal_by_steps}
use Rattle.std.proofs.lemmas.Slice.Eq.{bytes_eq-Decides}
use Rattle.std.proofs.lemmas.Grind.{common_steps}
use Rattle.lp_terms.specs.Names.{is_digit, is_start, is_inside, between, all_bytes, is_variable, is_reserved}
use Rattle.dk_text.specs.Tokens.{Token, found, id, starts_with, word_of, after_word, word_token, token_at, one_blank, here, over, EntryTokens, last, more, cut, is_point}
use Rattle.dk_text.specs.Text.{variable}

-- no word goes on in these bytes
abbrev pub stops : List ℕ → Bool
stops [] = true
stops (b ∷ bytes) = not (is_inside b)

pub all_bytes-append : (test : ℕ → Bool) (a b : List ℕ) → all_bytes test a ≡ true → all_bytes test b ≡ true → all_bytes test (a ++ b) ≡ true
all_bytes-append test [] b p q = q
all_bytes-append test (x ∷ a) b p q = let h = and_parts (test x) (all_bytes test a) p in and_from (test x) (all_bytes test (a ++ b)) h.0 (all_bytes-append test a b h.1 q)

pub all_bytes_weaker : (test other : ℕ → Bool) → ((b : ℕ) → test b ≡ true → other b ≡ true) → (a : List ℕ) → all_bytes test a ≡ true → all_bytes other a ≡ true
all_bytes_weaker test other h [] p = refl
all_bytes_weaker test other h (x ∷ a) p = let q = and_parts (test x) (all_bytes test a) p in and_from (other x) (all_bytes other a) (h x q.0) (all_bytes_weaker test other h a q.1)

pub or_right : (x y : Bool) → y ≡ true → (x || y) ≡ true
or_right true y e = refl
or_right false y e = e

pub or_left : (x y : Bool) → x ≡ true → (x || y) ≡ true
or_left true y e = refl
or_left false y e = absurd (both_ways false refl e)

pub digit_inside : (b : ℕ) → is_digit b ≡ true → is_inside b ≡ true
digit_inside b e = or_left (is_start b || is_digit b) (b == 33) (or_right (is_start b) (is_digit b) e)

digit_is : (n : ℕ) → n < 10 → is_digit (48 + n) ≡ true
digit_is n h = and_from (nat_le 48 (48 + n)) (nat_le (48 + n) 57) (le-leb 48 (48 + n) (omega arith)) (le-leb (48 + n) 57 (omega arith))

not_none : List ℕ → Bool
not_none [] = false
not_none (x ∷ a) = true

record Digits (n : ℕ) (ds : List ℕ) : Type 0 where
  all : all_bytes is_digit ds ≡ true
  some : 0 < length ds

one_digit : (n : ℕ) → n < 10 → Digits n ((48 + n) ∷ [])
one_digit n h = record { all = and_from (is_digit (48 + n)) true (digit_is n h) refl; some = omega arith }

more_digits : (n : ℕ) (ds : List ℕ) → 10 ≤ n → Digits (n / 10) ds → Digits n (ds ++ ((48 + n % 10) ∷ []))
more_digits n ds le d = record {
  all = all_bytes-append is_digit ds ((48 + n % 10) ∷ []) d.all (and_from (is_digit (48 + n % 10)) true (digit_is (n % 10) (omega arith)) refl);
  some = grind (arith, common_steps, d.some);
}

digits_are : (n : ℕ) → n < 2 ^ 64 → Digits n (decimal n)
digits_are n h = decimal_by_steps (λ n ds. Digits n ds) one_digit more_digits n h

pub decimal_inside : (n : ℕ) → n < 2 ^ 64 → all_bytes is_inside (decimal n) ≡ true
decimal_inside n h = all_bytes_weaker is_digit is_inside digit_inside (decimal n) (digits_are n h).all

x_and_digits : (ds : List ℕ) → all_bytes is_digit ds ≡ true → 0 < length ds → is_variable (120 ∷ ds) ≡ true
x_and_digits [] e h = absurd (omega arith)
x_and_digits (d ∷ ds) e h = e

pub variable_is : (n : ℕ) → n < 2 ^ 64 → is_variable (variable n) ≡ true
variable_is n h = x_and_digits (decimal n) (digits_are n h).all (digits_are n h).some

or_false : (x y : Bool) → (x || y) ≡ false → (x ≡ false) × (y ≡ false)
or_false true y e = absurd (both_ways true e refl)
or_false false y e = (refl, e)

-- the byte that a word begins with
start_cases : (b : ℕ) → is_start b ≡ true → ((97 ≤ b) × (b ≤ 122)) ⊎ (((65 ≤ b) × (b ≤ 90)) ⊎ (b ≡ 95))
start_cases b e =
    elim (or_cases (between 97 122 b || between 65 90 b) (b == 95) e) [
      | inl p ↦ elim (or_cases (between 97 122 b) (between 65 90 b) p) [
        | inl q ↦ let h = and_parts (nat_le 97 b) (nat_le b 122) q in inl (leb-true 97 b h.0, leb-true b 122 h.1)
        | inr q ↦ let h = and_parts (nat_le 65 b) (nat_le b 90) q in inr (inl (leb-true 65 b h.0, leb-true b 90 h.1))
      ]
      | inr p ↦ inr (inr (eqb-true b 95 p))
    ]

start_above : (b : ℕ) → is_start b ≡ true → 64 < b
start_above b e = elim (start_cases b e) [ inl h ↦ omega arith | inr h ↦ elim h [ inl k ↦ omega arith | inr k ↦ omega arith ] ]

no_byte : (b c : ℕ) → c < b → (b == c) ≡ false
no_byte b c h = ne_eqb b c (λ e. omega arith)

pub start_no_blank : (b : ℕ) (bytes : List ℕ) → is_start b ≡ true → one_blank (b ∷ bytes) ≡ None
start_no_blank b bytes e =
    let h = start_above b e in
    rw (no_byte b 32 (omega arith), no_byte b 9 (omega arith), no_byte b 13 (omega arith), no_byte b 10 (omega arith), no_byte b 40 (omega arith)) refl

pub start_no_semicolon : (b : ℕ) (bytes : List ℕ) → is_start b ≡ true → starts_with 59 (b ∷ bytes) ≡ false
start_no_semicolon b bytes e = let h = start_above b e in no_byte b 59 (omega arith)

not_true : (b : Bool) → not b ≡ true → b ≡ false
not_true true e = absurd (both_ways false refl e)
not_true false e = refl

word_of_none : (tail : List ℕ) → stops tail ≡ true → word_of tail ≡ []
word_of_none [] e = refl
word_of_none (b ∷ tail) e = rw (not_true (is_inside b) e) refl

after_none : (tail : List ℕ) → stops tail ≡ true → after_word tail ≡ tail
after_none [] e = refl
after_none (b ∷ tail) e = rw (not_true (is_inside b) e) refl

pub word_of-append : (bytes tail : List ℕ) → all_bytes is_inside bytes ≡ true → stops tail ≡ true → word_of (bytes ++ tail) ≡ bytes
word_of-append [] tail p e = word_of_none tail e
word_of-append (b ∷ bytes) tail p e =
    let h = and_parts (is_inside b) (all_bytes is_inside bytes) p in
    ap (λ t. cond t (b ∷ word_of (bytes ++ tail)) []) h.0 ∙ ap (λ w. b ∷ w) (word_of-append bytes tail h.1 e)

pub after_word-append : (bytes tail : List ℕ) → all_bytes is_inside bytes ≡ true → stops tail ≡ true → after_word (bytes ++ tail) ≡ tail
after_word-append [] tail p e = after_none tail e
after_word-append (b ∷ bytes) tail p e =
    let h = and_parts (is_inside b) (all_bytes is_inside bytes) p in
    ap (λ t. cond t (after_word (bytes ++ tail)) (b ∷ (bytes ++ tail))) h.0 ∙ after_word-append bytes tail h.1 e

token_at_word : (b : ℕ) (bytes tail : List ℕ) → is_start b ≡ true → all_bytes is_inside bytes ≡ true → stops tail ≡ true →
    token_at (b ∷ (bytes ++ tail)) ≡ found (word_token (b ∷ bytes) (length (b ∷ (bytes ++ tail)))) tail
token_at_word b bytes tail s p e =
    rw s (ap (λ w. found (word_token (b ∷ w) (length (b ∷ (bytes ++ tail)))) (after_word (bytes ++ tail))) (word_of-append bytes tail p e)
    ∙ ap (λ r. found (word_token (b ∷ bytes) (length (b ∷ (bytes ++ tail)))) r) (after_word-append bytes tail p e))

-- a word and then what stands behind it
pub word_lexes : (b : ℕ) (bytes tail : List ℕ) (token : Token) (tokens : List Token) (to : List ℕ) → is_start b ≡ true → all_bytes is_inside bytes ≡ true →
    stops tail ≡ true → word_token (b ∷ bytes) (length (b ∷ (bytes ++ tail))) ≡ token → is_point token ≡ false → EntryTokens tail tokens to →
    EntryTokens (b ∷ (bytes ++ tail)) (token ∷ tokens) to
word_lexes b bytes tail token tokens to s p e w q d =
    more (here (start_no_blank b (bytes ++ tail) s)) (token_at_word b bytes tail s p e ∙ ap (λ t. found t tail) w) q d

-- white space before tokens changes nothing
pub spaced : (bytes : List ℕ) (tokens : List Token) (to : List ℕ) → EntryTokens bytes tokens to → EntryTokens (32 ∷ bytes) tokens to
spaced bytes tokens to (last s e) = last (over refl s) e
spaced bytes tokens to (more s e p d) = more (over refl s) e p d
spaced bytes tokens to (cut s e) = cut (over refl s) e

pub bytes_same : (a b : List ℕ) → a ≡ b → bytes_eq a b ≡ true
bytes_same a b e = (bytes_eq-Decides a b).1 e

pub bytes_differ : (a b : List ℕ) → (a ≡ b → ⊥) → bytes_eq a b ≡ false
bytes_differ a b e = elim (cases_Bool (bytes_eq a b)) [ inl h ↦ absurd (e ((bytes_eq-Decides a b).0 h)) | inr h ↦ h ]

pub bytes_are_same : (a b : List ℕ) → bytes_eq a b ≡ true → a ≡ b
bytes_are_same a b e = (bytes_eq-Decides a b).0 e

-- an identifier is its token
pub identifier_token : (word : List ℕ) (left : ℕ) → is_reserved word ≡ false → word_token word left ≡ id word left
identifier_token word left e =
    let h = or_false (bytes_eq word (codes "Type") || bytes_eq word (codes "def") || bytes_eq word (codes "thm")) (bytes_eq word (codes "_")) e in
    let k = or_false (bytes_eq word (codes "Type") || bytes_eq word (codes "def")) (bytes_eq word (codes "thm")) h.0 in
    let l = or_false (bytes_eq word (codes "Type")) (bytes_eq word (codes "def")) k.0 in
    rw (l.0, l.1, k.1, h.1) refl

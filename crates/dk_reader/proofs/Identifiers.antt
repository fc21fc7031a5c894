-- Each name among the tokens of a text is an identifier.
use Rattle.std.proofs.Common.{◌≡◌, ℕ, zero, suc, ◌<◌, Bool, true, false, cond, List, [], ◌∷◌, length, get_or, refl, sym, subst, arith, inl, inr}
use Rattle.std.specs.Prelude.{◌&&◌, ◌||◌, ◌==◌, nat_le, codes, drop}
use Rattle.std.specs.Str.{bytes_eq}
use Rattle.std.proofs.lemmas.Bool.{and_from, or_from, and_parts, or_cases, leb-true, eqb-true}
use Rattle.lp_terms.specs.Names.{identifier, between, is_digit, is_start, is_inside, all_bytes}
use Rattle.dk_reader.specs.Proper.{IsProper, AreProper}
use Rattle.dk_text.specs.Tokens.{Token, id, foreign, type_word, def_word, colon, becomes, arrow, fat_arrow, long_arrow, point, comma, open_round, close_round, open_square, close_square, Foreign, Front, nothing, found, word_of, word_token, after_word, sign_at, token_at, starts_with, EntryTokens, last, more, cut}

abbrev pub IsProperFront : Front → Type 0
IsProperFront nothing = Unit {0}
IsProperFront (found token rest) = IsProper token

one_inside : (b : ℕ) (bytes : List ℕ) (t : Bool) → is_inside b ≡ t → all_bytes is_inside (word_of bytes) ≡ true → all_bytes is_inside (cond t (b ∷ word_of bytes) []) ≡ true
one_inside b bytes true e rest = and_from (is_inside b) (all_bytes is_inside (word_of bytes)) e rest
one_inside b bytes false e rest = refl

pub word_inside : (bytes : List ℕ) → all_bytes is_inside (word_of bytes) ≡ true
word_inside [] = refl
word_inside (b ∷ bytes) = one_inside b bytes (is_inside b) refl (word_inside bytes)

-- a word that is no other token is an identifier
word_proper_in : (b : ℕ) (word : List ℕ) (left : ℕ) (s t u v : Bool) → is_start b ≡ true → all_bytes is_inside word ≡ true →
    bytes_eq (b ∷ word) (codes "Type") ≡ s → bytes_eq (b ∷ word) (codes "def") ≡ t → bytes_eq (b ∷ word) (codes "thm") ≡ u → bytes_eq (b ∷ word) (codes "_") ≡ v →
    IsProper (cond s type_word (cond t def_word (cond u (foreign Foreign.command left) (cond v (foreign Foreign.pattern left) (id (b ∷ word) left)))))
word_proper_in b word left true t u v h i p q r o = tt
word_proper_in b word left false true u v h i p q r o = tt
word_proper_in b word left false false true v h i p q r o = tt
word_proper_in b word left false false false true h i p q r o = tt
word_proper_in b word left false false false false h i p q r o =
    identifier h i (or_from (bytes_eq (b ∷ word) (codes "Type") || bytes_eq (b ∷ word) (codes "def") || bytes_eq (b ∷ word) (codes "thm")) (bytes_eq (b ∷ word) (codes "_"))
    (or_from (bytes_eq (b ∷ word) (codes "Type") || bytes_eq (b ∷ word) (codes "def")) (bytes_eq (b ∷ word) (codes "thm"))
    (or_from (bytes_eq (b ∷ word) (codes "Type")) (bytes_eq (b ∷ word) (codes "def")) p q) r) o)

word_proper : (b : ℕ) (word : List ℕ) (left : ℕ) → is_start b ≡ true → all_bytes is_inside word ≡ true → IsProper (word_token (b ∷ word) left)
word_proper b word left h i =
    word_proper_in b word left (bytes_eq (b ∷ word) (codes "Type")) (bytes_eq (b ∷ word) (codes "def")) (bytes_eq (b ∷ word) (codes "thm")) (bytes_eq (b ∷ word) (codes "_")) h i refl refl refl refl

-- a choice between two fronts
either_proper : (b : Bool) (x y : Front) → IsProperFront x → IsProperFront y → IsProperFront (cond b x y)
either_proper true x y p q = p
either_proper false x y p q = q

sign_proper : (b : ℕ) (bytes : List ℕ) → IsProperFront (sign_at b bytes)
sign_proper b bytes =
    let none : IsProperFront nothing = tt in
    either_proper (b == 58) _ _ (either_proper (starts_with 61 bytes) (found becomes (drop 1 bytes)) (found colon bytes) tt tt) (
    either_proper (b == 45) _ _ (either_proper (starts_with 62 bytes) (found arrow (drop 1 bytes)) _ tt (either_proper (starts_with 45 bytes && starts_with 62 (drop 1 bytes)) (found long_arrow (drop 2 bytes)) nothing tt none)) (
    either_proper (b == 61) _ _ (either_proper (starts_with 62 bytes) (found fat_arrow (drop 1 bytes)) nothing tt none) (
    either_proper (b == 46) (found point bytes) _ tt (
    either_proper (b == 44) (found comma bytes) _ tt (
    either_proper (b == 40) _ _ (either_proper (starts_with 59 bytes) nothing (found open_round bytes) none tt) (
    either_proper (b == 41) (found close_round bytes) _ tt (
    either_proper (b == 91) (found open_square bytes) _ tt (
    either_proper (b == 93) (found close_square bytes) _ tt (
    either_proper (b == 35) (found (foreign Foreign.command (length (b ∷ bytes))) bytes) _ tt (
    either_proper (b == 123 && starts_with 124 bytes) (found (foreign Foreign.quoted (length (b ∷ bytes))) (drop 1 bytes)) nothing tt none))))))))))

front_proper : (bytes : List ℕ) → IsProperFront (token_at bytes)
front_proper [] = tt
front_proper (b ∷ bytes) = by (is_start b) refl
  where
    by : (t : Bool) → is_start b ≡ t → IsProperFront (cond t (found (word_token (b ∷ word_of bytes) (length (b ∷ bytes))) (after_word bytes)) (sign_at b bytes))
    by true e = word_proper b (word_of bytes) (length (b ∷ bytes)) e (word_inside bytes)
    by false e = sign_proper b bytes

pub tokens_proper : {bytes rest : List ℕ} {tokens : List Token} → EntryTokens bytes tokens rest → AreProper tokens
tokens_proper (last s e) = (tt, tt)
tokens_proper (more {at = at} {rest = rest} {token = token} s e p d) =
    (subst (λ (f : Front). IsProperFront f) e (front_proper at), tokens_proper d)
tokens_proper (cut s e) = tt

-- Words are ASCII

between_below : (low high b : ℕ) → between low high b ≡ true → high < 128 → b < 128
between_below low high b h lt = let parts = and_parts (nat_le low b) (nat_le b high) h in let le = leb-true b high parts.1 in omega arith

inside_below : (b : ℕ) → is_inside b ≡ true → b < 128
inside_below b h =
    elim (or_cases (is_start b || is_digit b) (b == 33) h) [
      | inl p ↦ elim (or_cases (is_start b) (is_digit b) p) [
        | inl q ↦ elim (or_cases (between 97 122 b || between 65 90 b) (b == 95) q) [
          | inl r ↦ elim (or_cases (between 97 122 b) (between 65 90 b) r) [
            | inl t ↦ between_below 97 122 b t (omega arith)
            | inr t ↦ between_below 65 90 b t (omega arith)
          ]
          | inr r ↦ let e = eqb-true b 95 r in omega arith
        ]
        | inr q ↦ between_below 48 57 b q (omega arith)
      ]
      | inr p ↦ let e = eqb-true b 33 p in omega arith
    ]

pub inside_ascii : (bytes : List ℕ) → all_bytes is_inside bytes ≡ true → (i : ℕ) → get_or bytes i 0 < 128
inside_ascii [] h i = omega arith
inside_ascii (b ∷ bytes) h zero = inside_below b (and_parts (is_inside b) (all_bytes is_inside bytes) h).0
inside_ascii (b ∷ bytes) h (suc i) = inside_ascii bytes (and_parts (is_inside b) (all_bytes is_inside bytes) h).1 i

pub word_ascii : (bytes word : List ℕ) → word ≡ word_of bytes → (i : ℕ) → get_or word i 0 < 128
word_ascii bytes word e i = subst (λ (w : List ℕ). get_or w i 0 < 128) (sym e) (inside_ascii (word_of bytes) (word_inside bytes) i)

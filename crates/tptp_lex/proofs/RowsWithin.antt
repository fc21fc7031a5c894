-- No token goes on past the end of the text.
use Rattle.std.proofs.Common.{◌≡◌, ℕ, suc, ◌+◌, ◌-◌, ◌≤◌, Bool, true, false, cond, List, [], ◌∷◌, length, drop, length-drop, length-append, Option, Some, None, refl, sym, ◌∙◌, ap, subst, arith}
use Rattle.std.specs.Prelude.{◌==◌, ◌&&◌, ◌||◌, nat_lt, not}
use Rattle.std.specs.Option.{option_map}
use Rattle.std.specs.List.{find}
use Rattle.tptp_lex.specs.declared.signs.Sign.{Sign}
use Rattle.tptp_lex.specs.declared.signs.TheConstants.{SIGNS}
use Rattle.tptp_lex.specs.declared.token.TokenKind.{TokenKind}
use Rattle.tptp_lex.specs.declared.token.TokenKind.TheVariants as kinds
use Rattle.tptp_lex.specs.Words.{is_small, is_capital, is_word, run, lower_length}
use Rattle.tptp_lex.specs.Quoted.{closes}
use Rattle.tptp_lex.specs.Numbers.{is_digit, digit_first, fraction, signed_digits, exponent, unsigned, number_length}
use Rattle.tptp_lex.specs.Signs.{spelling, begins}
use Rattle.tptp_lex.specs.Tokens.{token_at, dollar_length, marked_length, sign_token, number_or}
use Rattle.tptp_lex.proofs.LongestSign.{first_is_longest}
use Rattle.tptp_lex.proofs.RowsFit.{fits_spelling}

-- a length, where there is one, is at most this
abbrev UpTo : ℕ → Option ℕ → Type 0
UpTo most None = Unit {0}
UpTo most (Some n) = n ≤ most

abbrev TokenUpTo : ℕ → Option (TokenKind × ℕ) → Type 0
TokenUpTo most None = Unit {0}
TokenUpTo most (Some t) = t.1 ≤ most

either : (most : ℕ) (t : Bool) (x y : Option ℕ) → UpTo most x → UpTo most y → UpTo most (cond t x y)
either most true x y p q = p
either most false x y p q = q

either_token : (most : ℕ) (t : Bool) (x y : Option (TokenKind × ℕ)) → TokenUpTo most x → TokenUpTo most y → TokenUpTo most (cond t x y)
either_token most true x y p q = p
either_token most false x y p q = q

one_further : (most : ℕ) (o : Option ℕ) → UpTo most o → UpTo (suc most) (option_map (λ n. 1 + n) o)
one_further most None u = tt
one_further most (Some n) u = omega arith

token_further : (kind : TokenKind) (most : ℕ) (o : Option ℕ) → UpTo most o → TokenUpTo (suc most) (option_map (λ n. (kind, 1 + n)) o)
token_further kind most None u = tt
token_further kind most (Some n) u = omega arith

counted : (most : ℕ) (t : Bool) (n : ℕ) → n ≤ most → cond t (1 + n) 0 ≤ suc most
counted most true n le = omega arith
counted most false n le = omega arith

run_within : (test : ℕ → Bool) (bytes : List ℕ) → run test bytes ≤ length bytes
run_within test [] = omega arith
run_within test (b ∷ bytes) = counted (length bytes) (test b) (run test bytes) (run_within test bytes)

one_run : (most n : ℕ) → n ≤ most → 1 + n ≤ suc most
one_run most n le = omega arith

lower_within : (bytes : List ℕ) → UpTo (length bytes) (lower_length bytes)
lower_within [] = tt
lower_within (b ∷ bytes) = either (suc (length bytes)) (is_small b) (Some (1 + run is_word bytes)) None (one_run (length bytes) (run is_word bytes) (run_within is_word bytes)) tt

dollar_within : (bytes : List ℕ) → UpTo (length bytes) (dollar_length bytes)
dollar_within [] = tt
dollar_within (b ∷ bytes) =
    either (suc (length bytes)) (b == 36) (option_map (λ n. 1 + n) (lower_length bytes)) (lower_length (b ∷ bytes))
    (one_further (length bytes) (lower_length bytes) (lower_within bytes)) (lower_within (b ∷ bytes))

one_byte : (most : ℕ) → UpTo (suc most) (Some 1)
one_byte most = omega arith

closes_within : (mark : ℕ) (escaped : Bool) (bytes : List ℕ) → UpTo (length bytes) (closes mark escaped bytes)
closes_within mark escaped [] = tt
closes_within mark true (b ∷ bytes) =
    either (suc (length bytes)) (b == mark || b == 92) (option_map (λ n. 1 + n) (closes mark false bytes)) None
    (one_further (length bytes) (closes mark false bytes) (closes_within mark false bytes)) tt
closes_within mark false (b ∷ bytes) =
    either (suc (length bytes)) (b == mark) (Some 1) _ (one_byte (length bytes))
    (either (suc (length bytes)) (b == 92) (option_map (λ n. 1 + n) (closes mark true bytes)) _ (one_further (length bytes) (closes mark true bytes) (closes_within mark true bytes))
    (either (suc (length bytes)) (nat_lt b 32 || nat_lt 126 b) None (option_map (λ n. 1 + n) (closes mark false bytes)) tt
    (one_further (length bytes) (closes mark false bytes) (closes_within mark false bytes))))

marked_within : (mark : ℕ) (bytes : List ℕ) → UpTo (length bytes) (marked_length mark bytes)
marked_within mark [] = tt
marked_within mark (b ∷ bytes) = either (suc (length bytes)) (b == mark) None (closes mark false (b ∷ bytes)) tt (closes_within mark false (b ∷ bytes))

fraction_within : (bytes : List ℕ) → fraction bytes ≤ length bytes
fraction_within [] = omega arith
fraction_within (b ∷ bytes) = counted (length bytes) ((b == 46 || b == 47) && digit_first bytes) (run is_digit bytes) (run_within is_digit bytes)

signed_within : (bytes : List ℕ) → signed_digits bytes ≤ length bytes
signed_within [] = omega arith
signed_within (b ∷ bytes) = counted (length bytes) ((b == 43 || b == 45) && digit_first bytes) (run is_digit bytes) (run_within is_digit bytes)

exponent_within : (bytes : List ℕ) → exponent bytes ≤ length bytes
exponent_within [] = omega arith
exponent_within (b ∷ bytes) = counted (length bytes) ((b == 69 || b == 101) && not (signed_digits bytes == 0)) (signed_digits bytes) (signed_within bytes)

three_parts : (whole part power all : ℕ) → whole ≤ all → part ≤ all - whole → power ≤ all - whole - part → whole + part + power ≤ all
three_parts whole part power all p q r = omega arith

unsigned_within : (bytes : List ℕ) → unsigned bytes ≤ length bytes
unsigned_within bytes =
    let whole : ℕ = run is_digit bytes in
    let part : ℕ = fraction (drop whole bytes) in
    let first : length (drop whole bytes) ≡ length bytes - whole = length-drop whole bytes in
    let second : length (drop part (drop whole bytes)) ≡ length (drop whole bytes) - part = length-drop part (drop whole bytes) in
    let p = run_within is_digit bytes in
    let q = fraction_within (drop whole bytes) in
    let r = exponent_within (drop part (drop whole bytes)) in
    three_parts whole part (exponent (drop part (drop whole bytes))) (length bytes) p (omega arith) (omega arith)

number_within : (bytes : List ℕ) → UpTo (length bytes) (number_length bytes)
number_within [] = tt
number_within (b ∷ bytes) =
    either (suc (length bytes)) (is_digit b) (Some (unsigned (b ∷ bytes))) _ (unsigned_within (b ∷ bytes))
    (either (suc (length bytes)) ((b == 43 || b == 45) && digit_first bytes) (Some (1 + unsigned bytes)) None (one_run (length bytes) (unsigned bytes) (unsigned_within bytes)) tt)

sign_within : (bytes : List ℕ) (o : Option Sign) → o ≡ find (begins bytes) SIGNS → TokenUpTo (length bytes) (sign_token o)
sign_within bytes None e = tt
sign_within bytes (Some s) e =
    let spelled = fits_spelling bytes (spelling s) (first_is_longest bytes s (sym e)).begins_with in
    let sum : length bytes ≡ length (spelling s) + length (drop (length (spelling s)) bytes) = ap length spelled ∙ length-append (spelling s) (drop (length (spelling s)) bytes) in
    omega arith

number_or_within : (most : ℕ) (o : Option ℕ) (p : Option (TokenKind × ℕ)) → UpTo most o → TokenUpTo most p → TokenUpTo most (number_or o p)
number_or_within most None p u v = v
number_or_within most (Some n) p u v = u

-- how far the token at the front goes
pub token_within : (bytes : List ℕ) → TokenUpTo (length bytes) (token_at bytes)
token_within [] = omega arith
token_within (b ∷ bytes) =
    either_token (suc (length bytes)) (is_small b) _ _ (one_run (length bytes) (run is_word bytes) (run_within is_word bytes))
    (either_token (suc (length bytes)) (is_capital b) _ _ (one_run (length bytes) (run is_word bytes) (run_within is_word bytes))
    (either_token (suc (length bytes)) (b == 36) _ _ (token_further kinds.Dollar (length bytes) (dollar_length bytes) (dollar_within bytes))
    (either_token (suc (length bytes)) (b == 39) _ _ (token_further kinds.Quoted (length bytes) (marked_length 39 bytes) (marked_within 39 bytes))
    (either_token (suc (length bytes)) (b == 34) _ _ (token_further kinds.Distinct (length bytes) (marked_length 34 bytes) (marked_within 34 bytes))
    (number_or_within (suc (length bytes)) (number_length (b ∷ bytes)) (sign_token (find (begins (b ∷ bytes)) SIGNS))
    (number_within (b ∷ bytes)) (sign_within (b ∷ bytes) (find (begins (b ∷ bytes)) SIGNS) refl))))))

pub found_within : (bytes : List ℕ) (kind : TokenKind) (n : ℕ) → token_at bytes ≡ Some (kind, n) → n ≤ length bytes
found_within bytes kind n e = subst (λ (o : Option (TokenKind × ℕ)). TokenUpTo (length bytes) o) e (token_within bytes)

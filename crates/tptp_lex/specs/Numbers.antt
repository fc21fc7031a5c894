-- Numbers, and how far they go.
use Rattle.std.specs.Prelude.{ℕ, ◌+◌, Bool, false, cond, not, ◌||◌, ◌&&◌, ◌==◌, List, [], ◌∷◌, drop, Option, Some, None}
use Rattle.tptp_lex.specs.Words.{between, run}

-- 0 to 9
abbrev pub is_digit : ℕ → Bool
is_digit b = between 48 57 b

-- the bytes begin with a digit
abbrev pub digit_first : List ℕ → Bool
digit_first [] = false
digit_first (b ∷ bytes) = is_digit b

-- how long the point (46) or stroke (47) with digits behind it is; 0 without a digit there
abbrev pub fraction : List ℕ → ℕ
fraction [] = 0
fraction (b ∷ bytes) = cond ((b == 46 || b == 47) && digit_first bytes) (1 + run is_digit bytes) 0

-- how long the sign (+ is 43, - is 45) with digits behind it is; 0 without a digit there
abbrev pub signed_digits : List ℕ → ℕ
signed_digits [] = 0
signed_digits (b ∷ bytes) = cond ((b == 43 || b == 45) && digit_first bytes) (1 + run is_digit bytes) 0

-- how long the letter E (69) or e (101) with a sign and digits is; 0 without them
abbrev pub exponent : List ℕ → ℕ
exponent [] = 0
exponent (b ∷ bytes) = cond ((b == 69 || b == 101) && not (signed_digits bytes == 0)) (1 + signed_digits bytes) 0

-- how long digits, a fraction and an exponent are together
abbrev pub unsigned : List ℕ → ℕ
unsigned bytes =
    let whole = run is_digit bytes in
    let part = fraction (drop whole bytes) in
    whole + part + exponent (drop part (drop whole bytes))

-- how long the number at the front is, with its sign
abbrev pub number_length : List ℕ → Option ℕ
number_length [] = None
number_length (b ∷ bytes) =
    cond (is_digit b) (Some (unsigned (b ∷ bytes)))
    (cond ((b == 43 || b == 45) && digit_first bytes) (Some (1 + unsigned bytes)) None)

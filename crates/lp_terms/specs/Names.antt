-- Names as bytes: identifiers, reserved words and the names of printed variables.
use Rattle.std.specs.Prelude.{◌≡◌, ℕ, Bool, true, false, ◌||◌, ◌&&◌, ◌==◌, nat_le, List, [], ◌∷◌, codes}
use Rattle.std.specs.Str.{bytes_eq}

abbrev pub between : ℕ → ℕ → ℕ → Bool
between low high b = nat_le low b && nat_le b high

abbrev pub is_digit : ℕ → Bool
is_digit b = between 48 57 b

-- a letter or _
abbrev pub is_start : ℕ → Bool
is_start b = between 97 122 b || between 65 90 b || b == 95

-- a letter, a digit, _ or !
abbrev pub is_inside : ℕ → Bool
is_inside b = is_start b || is_digit b || b == 33

abbrev pub all_bytes : (ℕ → Bool) → List ℕ → Bool
all_bytes test [] = true
all_bytes test (b ∷ bytes) = test b && all_bytes test bytes

-- Type, def, thm or _
abbrev pub is_reserved : List ℕ → Bool
is_reserved word = bytes_eq word (codes "Type") || bytes_eq word (codes "def") || bytes_eq word (codes "thm") || bytes_eq word (codes "_")

-- x followed by one or more digits and nothing else
abbrev pub is_variable : List ℕ → Bool
is_variable [] = false
is_variable (b ∷ []) = false
is_variable (b ∷ c ∷ bytes) = b == 120 && all_bytes is_digit (c ∷ bytes)

-- a letter or _, then letters, digits, _ and !, and no reserved word
pub data IsIdentifier : List ℕ → Type 0 where
  identifier : {b : ℕ} {bytes : List ℕ} → is_start b ≡ true → all_bytes is_inside bytes ≡ true →
      is_reserved (b ∷ bytes) ≡ false → IsIdentifier (b ∷ bytes)

-- the name is one of the list
abbrev pub is_among : List ℕ → List (List ℕ) → Bool
is_among name [] = false
is_among name (x ∷ xs) = bytes_eq x name || is_among name xs

-- The signs, as they are written.
use Rattle.std.specs.Prelude.{◌≡◌, ℕ, ◌≤◌, ◌==◌, Bool, true, List, length, codes}
use Rattle.std.specs.List.{starts_with}
use Rattle.tptp_lex.specs.declared.signs.Sign.{Sign}
use Rattle.tptp_lex.specs.declared.signs.Sign.TheVariants.{Open, Close, OpenList, CloseList, Comma, Stop, Colon, And, Or, Not, Implies, If, Iff, Xor, NotAnd, NotOr, Equal, NotEqual, All, Exists, AllTypes, Arrow, Star, At, Caret, Plus, Minus}

-- how a sign is written
abbrev pub spelling : Sign → List ℕ
spelling Open = codes "("
spelling Close = codes ")"
spelling OpenList = codes "["
spelling CloseList = codes "]"
spelling Comma = codes ","
spelling Stop = codes "."
spelling Colon = codes ":"
spelling And = codes "&"
spelling Or = codes "|"
spelling Not = codes "~"
spelling Implies = codes "=>"
spelling If = codes "<="
spelling Iff = codes "<=>"
spelling Xor = codes "<~>"
spelling NotAnd = codes "~&"
spelling NotOr = codes "~|"
spelling Equal = codes "="
spelling NotEqual = codes "!="
spelling All = codes "!"
spelling Exists = codes "?"
spelling AllTypes = codes "!>"
spelling Arrow = codes ">"
spelling Star = codes "*"
spelling At = codes "@"
spelling Caret = codes "^"
spelling Plus = codes "+"
spelling Minus = codes "-"

-- The bytes begin with the sign.
abbrev pub begins : List ℕ → Sign → Bool
begins bytes s = starts_with (λ a b. a == b) bytes (spelling s)

-- The longest sign that the bytes begin with.
pub record IsLongestSign (bytes : List ℕ) (s : Sign) : Type 0 where
  pub begins_with : begins bytes s ≡ true
  pub longest : (t : Sign) → begins bytes t ≡ true → length (spelling t) ≤ length (spelling s)

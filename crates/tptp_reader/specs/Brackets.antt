-- Brackets, and the parts of a statement between its commas.
use Rattle.std.specs.Prelude.{ℕ, zero, suc, ◌+◌, Bool, true, false, List, [], ◌∷◌, drop, slice_range, Option, Some, None}
use Rattle.tptp_lex.specs.declared.signs.Sign.TheVariants.{Open, Close, OpenList, CloseList, Comma, Stop, And, Or, Not, Implies, If, Iff, Xor, NotAnd, NotOr, All, Exists, AllTypes}
use Rattle.tptp_reader.specs.Tokens.{Token, lower, sign}

-- an open bracket: round or square
pub data Bracket : Type 0 where
  round : Bracket
  square : Bracket

-- what follows the bracket that closes the outermost of these open brackets, the innermost of which comes first; nothing
-- where a bracket of the other kind closes one of them, or none does
abbrev pub behind_closing : List Bracket → List Token → Option (List Token)
behind_closing [] tokens = Some tokens
behind_closing (b ∷ opened) [] = None
behind_closing (b ∷ opened) (sign Open ∷ tokens) = behind_closing (Bracket.round ∷ b ∷ opened) tokens
behind_closing (b ∷ opened) (sign OpenList ∷ tokens) = behind_closing (Bracket.square ∷ b ∷ opened) tokens
behind_closing (Bracket.round ∷ opened) (sign Close ∷ tokens) = behind_closing opened tokens
behind_closing (Bracket.square ∷ opened) (sign Close ∷ tokens) = None
behind_closing (Bracket.square ∷ opened) (sign CloseList ∷ tokens) = behind_closing opened tokens
behind_closing (Bracket.round ∷ opened) (sign CloseList ∷ tokens) = None
behind_closing (b ∷ opened) (token ∷ tokens) = behind_closing (b ∷ opened) tokens

abbrev pub is_point : Option (List Token) → Bool
is_point (Some (sign Stop ∷ [])) = true
is_point tokens = false

-- A wide statement: a lower, an open bracket, balanced tokens, the closing bracket and a point.
abbrev pub is_wide : List Token → Bool
is_wide (lower word ∷ sign Open ∷ tokens) = is_point (behind_closing (Bracket.round ∷ []) tokens)
is_wide tokens = false

-- What a token does to the nesting: it opens or closes a bracket; it is a negation or the head of a quantifier, pending up
-- to the next binary connective, comma or closing bracket of its level; it is such a connective or comma; or nothing.
pub data Class : Type 0 where
  opening : Class
  closing : Class
  pending : Class
  separating : Class
  other : Class

abbrev pub class_of : Token → Class
class_of (sign Open) = Class.opening
class_of (sign OpenList) = Class.opening
class_of (sign Close) = Class.closing
class_of (sign CloseList) = Class.closing
class_of (sign Not) = Class.pending
class_of (sign All) = Class.pending
class_of (sign Exists) = Class.pending
class_of (sign AllTypes) = Class.pending
class_of (sign Comma) = Class.separating
class_of (sign And) = Class.separating
class_of (sign Or) = Class.separating
class_of (sign Implies) = Class.separating
class_of (sign If) = Class.separating
class_of (sign Iff) = Class.separating
class_of (sign Xor) = Class.separating
class_of (sign NotAnd) = Class.separating
class_of (sign NotOr) = Class.separating
class_of token = Class.other

-- how many tokens stand before the next comma outside inner brackets, or before the bracket that closes those round them;
-- opened: the inner brackets open so far
abbrev pub to_comma : ℕ → List Token → ℕ
to_comma opened [] = 0
to_comma opened (sign Open ∷ tokens) = suc (to_comma (suc opened) tokens)
to_comma opened (sign OpenList ∷ tokens) = suc (to_comma (suc opened) tokens)
to_comma zero (sign Close ∷ tokens) = 0
to_comma zero (sign CloseList ∷ tokens) = 0
to_comma zero (sign Comma ∷ tokens) = 0
to_comma (suc opened) (sign Close ∷ tokens) = suc (to_comma opened tokens)
to_comma (suc opened) (sign CloseList ∷ tokens) = suc (to_comma opened tokens)
to_comma opened (token ∷ tokens) = suc (to_comma opened tokens)

-- where the part of a statement that begins at a token ends: at the next comma outside inner brackets, or at the closing
-- bracket. Behind the closing bracket stands the point alone, so a part that is missing is the point or nothing.
abbrev pub part_end : List Token → ℕ → ℕ
part_end tokens start = start + to_comma 0 (drop start tokens)

-- where the role begins: behind the first comma
abbrev pub role_start : List Token → ℕ
role_start tokens = suc (part_end tokens 2)

-- where the formula part begins: behind the second comma
abbrev pub formula_start : List Token → ℕ
formula_start tokens = suc (part_end tokens (role_start tokens))

-- the formula part: what stands between the second and the third comma, or the closing bracket
abbrev pub formula_part : List Token → List Token
formula_part tokens = slice_range tokens (formula_start tokens) (part_end tokens (formula_start tokens))

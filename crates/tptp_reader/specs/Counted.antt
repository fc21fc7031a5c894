-- How the program goes over a statement's tokens.
use Rattle.std.specs.Prelude.{ℕ, zero, suc, Bool, true, false, List, ◌∷◌, map, reverse, Option, Some, None}
use Rattle.tptp_lex.specs.declared.signs.Sign.TheVariants.{Open, Close, OpenList, CloseList, Comma, Minus}
use Rattle.tptp_reader.specs.declared.nesting.Level.{Level}
use Rattle.tptp_reader.specs.declared.nesting.Effect.{Effect}
use Rattle.tptp_reader.specs.declared.nesting.Effect.TheVariants as effects
use Rattle.tptp_reader.specs.declared.rows.RefusedToken.{RefusedToken}
use Rattle.tptp_reader.specs.declared.rows.RefusedToken.TheVariants as refused
use Rattle.tptp_reader.specs.Brackets.{Class, to_comma}
use Rattle.tptp_reader.specs.Rows.{Fault}
use Rattle.tptp_reader.specs.Tokens.{Token, sign}

-- the inner brackets open behind one more token of a part; nothing where the part ends before it
abbrev pub part_behind : ℕ → Token → Option ℕ
part_behind opened (sign Open) = Some (suc opened)
part_behind opened (sign OpenList) = Some (suc opened)
part_behind zero (sign Close) = None
part_behind zero (sign CloseList) = None
part_behind zero (sign Comma) = None
part_behind (suc opened) (sign Close) = Some opened
part_behind (suc opened) (sign CloseList) = Some opened
part_behind opened token = Some opened

-- how long the part is from a token on, by what that does
abbrev pub counted_behind : Option ℕ → List Token → ℕ
counted_behind None tokens = 0
counted_behind (Some opened) tokens = suc (to_comma opened tokens)

-- what a token does to the nesting, as the program tells it
abbrev pub class_told : Effect → Class
class_told effects.Opening = Class.opening
class_told effects.Closing = Class.closing
class_told effects.Pending = Class.pending
class_told effects.Separating = Class.separating
class_told effects.Other = Class.other

abbrev pub level_of : Level → ℕ × ℕ
level_of l = (l.count, l.base)

abbrev pub levels_of : List Level → List (ℕ × ℕ)
levels_of levels = map level_of (reverse levels)

-- a refused token, as the program tells it
abbrev pub fault_of : RefusedToken → Fault
fault_of (refused.Unsupported form n) = Fault.unsupported form n
fault_of (refused.TooDeep n) = Fault.too_deep n

-- a subrole stands behind the role
abbrev pub has_subrole : List Token → Bool
has_subrole (sign Minus ∷ tokens) = true
has_subrole tokens = false

-- The brackets that are open behind some tokens.
use Rattle.std.specs.Prelude.{Bool, true, false, List, [], ◌∷◌, map, reverse, Option, Some, None}
use Rattle.tptp_lex.specs.declared.signs.Sign.TheVariants.{Open, Close, OpenList, CloseList}
use Rattle.tptp_reader.specs.declared.brackets.Opening.{Opening}
use Rattle.tptp_reader.specs.declared.brackets.Opening.TheVariants.{Round, Square}
use Rattle.tptp_reader.specs.Brackets.{Bracket}
use Rattle.tptp_reader.specs.Tokens.{Token, sign}

abbrev pub is_closed : List Bracket → Bool
is_closed [] = true
is_closed (b ∷ opened) = false

abbrev pub bracket_of : Opening → Bracket
bracket_of Round = Bracket.round
bracket_of Square = Bracket.square

abbrev pub innermost_first : List Opening → List Bracket
innermost_first opened = map bracket_of (reverse opened)

-- the brackets that are open behind one more token; nothing where it closes a bracket of the other kind, or none
abbrev pub bracketed : List Bracket → Token → Option (List Bracket)
bracketed opened (sign Open) = Some (Bracket.round ∷ opened)
bracketed opened (sign OpenList) = Some (Bracket.square ∷ opened)
bracketed [] (sign Close) = None
bracketed (Bracket.round ∷ opened) (sign Close) = Some opened
bracketed (Bracket.square ∷ opened) (sign Close) = None
bracketed [] (sign CloseList) = None
bracketed (Bracket.round ∷ opened) (sign CloseList) = None
bracketed (Bracket.square ∷ opened) (sign CloseList) = Some opened
bracketed opened token = Some opened

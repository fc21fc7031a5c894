-- How the tokens of a wide statement are taken one after another.
use Rattle.std.specs.Prelude.{◌≡◌, ℕ, Bool, true, false, List, [], ◌∷◌, ◌++◌, map, slice_range, Some}
use Rattle.tptp_lex.specs.declared.lexer.Token as lex
use Rattle.tptp_lex.specs.declared.token.TokenKind.TheVariants.{End}
use Rattle.tptp_lex.specs.declared.signs.Sign.TheVariants.{Open}
use Rattle.tptp_lex.specs.Lexing.{IsNext, OnlyBlank}
use Rattle.tptp_reader.specs.Tokens.{Token, lower, sign, token_of, Tokens}
use Rattle.tptp_reader.specs.declared.wide.Start.{Start}
use Rattle.tptp_reader.specs.declared.wide.Start.TheVariants as starts
use Rattle.tptp_reader.specs.Parsing.{seen}
use Rattle.tptp_reader.specs.Brackets.{Bracket, behind_closing, is_point}
use Rattle.tptp_reader.specs.Answers.{IsWide, Answers, Answer, Refusal}

-- No token follows: a fault does, or the end.
abbrev pub NoToken : List ℕ → ℕ → Type 0
NoToken bytes from = (t : lex.Token) → IsNext bytes from t → t.kind ≡ End

-- What is taken of a text: tokens and the place of each, up to a place.
pub record Taken : Type 0 where
  pub text : List ℕ
  pub tokens : List Token
  pub places : List ℕ
  pub reached : ℕ

-- The token comes next, and it is taken behind the others.
pub record Takes (before after : Taken) (token : Token) : Type 0 where
  pub t : lex.Token
  pub next : IsNext before.text before.reached t
  pub spelled : token_of t.kind (slice_range before.text t.start t.end) ≡ Some token
  pub same : after ≡ record { text = before.text; tokens = before.tokens ++ token ∷ []; places = before.places ++ t.start ∷ []; reached = t.end }

-- The token doesn't come next.
abbrev pub NotNext : Taken → Token → Type 0
NotNext s token = (after : Taken) → Takes s after token → ⊥

-- No wide statement begins at a place.
abbrev pub NotWide : List ℕ → ℕ → Type 0
NotWide text from = (tokens : List Token) (places : List ℕ) (after : ℕ) → IsWide text from tokens places after → ⊥

-- What follows makes a wide statement of the tokens taken where it passes a test, and there is no other wide statement.
pub record Awaits (from : ℕ) (s : Taken) (left : List Token → Bool) : Type 0 where
  pub fits : (rest : List Token) (places : List ℕ) (after : ℕ) → Tokens s.text s.reached rest places after → left rest ≡ true → IsWide s.text from (s.tokens ++ rest) (s.places ++ places) after
  pub only : ((rest : List Token) (places : List ℕ) (after : ℕ) → Tokens s.text s.reached rest places after → left rest ≡ true → ⊥) → NotWide s.text from

-- Where one test has been awaited, another is now, if more was taken; if not, no wide statement begins at the place.
abbrev pub Moves : Bool → (before after : Taken) → (left next : List Token → Bool) → Type 0
Moves true before after left next = (after.text ≡ before.text) × ((from : ℕ) → Awaits from before left → Awaits from after next)
Moves false before after left next = (from : ℕ) → Awaits from before left → NotWide before.text from

abbrev pub is_lower : Token → Bool
is_lower (lower text) = true
is_lower token = false

-- what has to follow a lower
abbrev pub opens : List Token → Bool
opens (sign Open ∷ tokens) = is_point (behind_closing (Bracket.round ∷ []) tokens)
opens tokens = false

-- what has to follow where these brackets are open
abbrev pub closes : List Bracket → List Token → Bool
closes opened tokens = is_point (behind_closing opened tokens)

-- what has to follow the point
abbrev pub nothing : List Token → Bool
nothing [] = true
nothing (token ∷ tokens) = false

-- What begins at a place of a text, as the program finds it: a wide statement, a refusal, or nothing more.
abbrev pub Begins : List ℕ → ℕ → Start → Type 0
Begins text from (starts.Wide w) = IsWide text from (map seen w.lexemes.items) w.places.items w.after
Begins text from (starts.Refused place) = Answers text from (Answer.refuses (Refusal.syntax place))
Begins text from starts.End = OnlyBlank text from

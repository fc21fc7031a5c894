-- What the parser's functions see of their tokens, and what they give.
use Rattle.std.specs.Prelude.{◌≡◌, ◌==◌, cond, ℕ, List, [], ◌∷◌, Option, Some, None, Result, Ok, Err}
use Rattle.tptp_lex.specs.declared.signs.Sign.{Sign}
use Rattle.tptp_lex.specs.declared.signs.Sign.TheVariants.{Open, Close, OpenList, CloseList, Comma, Stop, Colon, And, Or, Not, Implies, If, Iff, Xor, NotAnd, NotOr, Equal, NotEqual, All, Exists, AllTypes, Arrow, Star, At, Caret, Plus, Minus}
use Rattle.tptp_reader.specs.declared.lexeme.Lexeme.{Lexeme}
use Rattle.tptp_reader.specs.declared.lexeme.Lexeme.TheVariants as lexemes
use Rattle.tptp_reader.specs.declared.cursor.ParseStop.{ParseStop}
use Rattle.tptp_reader.specs.declared.cursor.ParseStop.TheVariants.{Syntax, Memory}
use Rattle.tptp_reader.specs.Tokens.{Token, lower, upper, defined, quoted, distinct, number, sign}

-- the token that a lexeme of the program stands for
abbrev pub seen : Lexeme → Token
seen (lexemes.Lower text) = lower text.now
seen (lexemes.Upper text) = upper text.now
seen (lexemes.Defined word) = defined word
seen (lexemes.Quoted text) = quoted text.now
seen lexemes.Distinct = distinct
seen (lexemes.Number text) = number text.now
seen (lexemes.Sign s) = sign s

-- the sign that comes next, if it is one
abbrev pub first_sign : List Token → Option Sign
first_sign (sign s ∷ tokens) = Some s
first_sign tokens = None

-- a number for each sign, to tell them apart
abbrev pub sign_number : Sign → ℕ
sign_number Open = 0
sign_number Close = 1
sign_number OpenList = 2
sign_number CloseList = 3
sign_number Comma = 4
sign_number Stop = 5
sign_number Colon = 6
sign_number And = 7
sign_number Or = 8
sign_number Not = 9
sign_number Implies = 10
sign_number If = 11
sign_number Iff = 12
sign_number Xor = 13
sign_number NotAnd = 14
sign_number NotOr = 15
sign_number Equal = 16
sign_number NotEqual = 17
sign_number All = 18
sign_number Exists = 19
sign_number AllTypes = 20
sign_number Arrow = 21
sign_number Star = 22
sign_number At = 23
sign_number Caret = 24
sign_number Plus = 25
sign_number Minus = 26

-- what stands behind this sign, where it comes next
abbrev pub behind : Sign → List Token → Option (List Token)
behind wanted (sign s ∷ tokens) = cond (sign_number s == sign_number wanted) (Some tokens) None
behind wanted tokens = None

-- The token comes next.
abbrev pub Starts : List Token → Token → Type 0
Starts [] token = ⊥
Starts (t ∷ tokens) token = t ≡ token

-- goes on with what was read
abbrev pub then : {A B : Type 0} → Option A → (A → Option B) → Option B
then None k = None
then (Some x) k = k x

-- What a function returned, with the tokens that it left, is what the slow reader gives, unless memory ran out.
abbrev pub Gives : {T A : Type 0} → (T → A) → Result T ParseStop → List Token → Option (A × List Token) → Type 0
Gives view (Ok x) rest read = read ≡ Some (view x, rest)
Gives view (Err Syntax) rest read = read ≡ None
Gives view (Err Memory) rest read = Unit {0}

-- the same of a function that gives no value
abbrev pub Leaves : Result (Unit {0}) ParseStop → List Token → Option (List Token) → Type 0
Leaves (Ok x) rest read = read ≡ Some rest
Leaves (Err Syntax) rest read = read ≡ None
Leaves (Err Memory) rest read = Unit {0}

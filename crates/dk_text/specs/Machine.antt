-- A slow reader of terms that keeps what stands round the place on a stack: it goes over the tokens once and recurses on nothing else.
use Rattle.std.specs.Prelude.{ℕ, Bool, true, false, List, [], ◌∷◌, Option, Some, None}
use Rattle.dk_text.specs.Tokens.{Token, id, type_word, colon, becomes, arrow, fat_arrow, long_arrow, point, comma, open_round, close_round, close_square}
use Rattle.dk_text.specs.Grammar.{Raw, word, universe, bracket, apply, product, abstraction}

-- what a place stands in, the innermost first
pub data Frame : Type 0 where
  -- an open bracket, and what is applied to it
  opened : (before : Option Raw) → Frame
  -- a binder whose domain is read
  named : (x : List ℕ) → Frame
  -- a product or an abstraction whose domain has been read
  to_codomain : (x : Option (List ℕ)) (domain : Raw) → Frame
  to_body : (x : List ℕ) (domain : Raw) → Frame

-- a term and the tokens behind it
pub data Read : Type 0 where
  refused : Read
  found : (term : Raw) (rest : List Token) → Read

abbrev pub applied_to : Option Raw → Raw → Raw
applied_to None t = t
applied_to (Some f) t = apply f t

-- the whole that a last part ends, up to the innermost bracket or to a name that awaits its arrow
pub data Closed : Type 0 where
  closed : (frames : List Frame) (term : Raw) → Closed

abbrev pub closing : List Frame → Raw → Closed
closing [] t = closed [] t
closing (opened before ∷ frames) t = closed (opened before ∷ frames) t
closing (named x ∷ frames) t = closed (named x ∷ frames) t
closing (to_codomain x a ∷ frames) t = closing frames (product x a t)
closing (to_body x a ∷ frames) t = closing frames (abstraction x a t)

-- behind a closing bracket
abbrev pub after_bracket : (List Frame → Option Raw → Read) → Closed → Read
after_bracket go_on (closed [] t) = refused
after_bracket go_on (closed (opened before ∷ frames) t) = go_on frames (Some (applied_to before (bracket t)))
after_bracket go_on (closed (named x ∷ frames) t) = refused
after_bracket go_on (closed (to_codomain x a ∷ frames) t) = refused
after_bracket go_on (closed (to_body x a ∷ frames) t) = refused

-- at a token that ends a term
abbrev pub whole : List Token → Closed → Read
whole tokens (closed [] t) = found t tokens
whole tokens (closed (frame ∷ frames) t) = refused

-- behind an arrow
abbrev pub after_arrow : (List Frame → Option Raw → Read) → List Frame → Raw → Read
after_arrow go_on (named x ∷ frames) a = go_on (to_codomain (Some x) a ∷ frames) None
after_arrow go_on [] a = go_on (to_codomain None a ∷ []) None
after_arrow go_on (opened before ∷ frames) a = go_on (to_codomain None a ∷ opened before ∷ frames) None
after_arrow go_on (to_codomain x c ∷ frames) a = go_on (to_codomain None a ∷ to_codomain x c ∷ frames) None
after_arrow go_on (to_body x c ∷ frames) a = go_on (to_codomain None a ∷ to_body x c ∷ frames) None

-- behind a fat arrow
abbrev pub after_fat_arrow : (List Frame → Option Raw → Read) → List Frame → Raw → Read
after_fat_arrow go_on (named x ∷ frames) a = go_on (to_body x a ∷ frames) None
after_fat_arrow go_on frames a = refused

-- a binder may begin here
abbrev pub is_fresh : List Frame → Bool
is_fresh (named x ∷ frames) = false
is_fresh frames = true

-- a name and a colon
abbrev pub after_binder : (List Frame → Option Raw → Read) → List Frame → List ℕ → Read
after_binder go_on (named y ∷ frames) x = refused
after_binder go_on [] x = go_on (named x ∷ []) None
after_binder go_on (opened before ∷ frames) x = go_on (named x ∷ opened before ∷ frames) None
after_binder go_on (to_codomain y c ∷ frames) x = go_on (named x ∷ to_codomain y c ∷ frames) None
after_binder go_on (to_body y c ∷ frames) x = go_on (named x ∷ to_body y c ∷ frames) None

-- the term that these tokens end, where frames stand round the place and a head may have been read
abbrev pub read : List Token → List Frame → Option Raw → Read
read [] frames head = refused
read (id x left ∷ colon ∷ tokens) frames None = after_binder (read tokens) frames x
read (id x left ∷ tokens) frames head = read tokens frames (Some (applied_to head (word x left)))
read (type_word ∷ tokens) frames head = read tokens frames (Some (applied_to head universe))
read (open_round ∷ tokens) frames head = read tokens (opened head ∷ frames) None
read (close_round ∷ tokens) frames (Some t) = after_bracket (read tokens) (closing frames t)
read (arrow ∷ tokens) frames (Some t) = after_arrow (read tokens) frames t
read (fat_arrow ∷ tokens) frames (Some t) = after_fat_arrow (read tokens) frames t
read (becomes ∷ tokens) frames (Some t) = whole (becomes ∷ tokens) (closing frames t)
read (long_arrow ∷ tokens) frames (Some t) = whole (long_arrow ∷ tokens) (closing frames t)
read (point ∷ tokens) frames (Some t) = whole (point ∷ tokens) (closing frames t)
read (comma ∷ tokens) frames (Some t) = whole (comma ∷ tokens) (closing frames t)
read (close_square ∷ tokens) frames (Some t) = whole (close_square ∷ tokens) (closing frames t)
read (token ∷ tokens) frames head = refused

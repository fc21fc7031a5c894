-- The reader of terms with a stack, over pieces in place of terms as they are written. It keeps the names of the binders round the place.
use Rattle.std.specs.Prelude.{ℕ, Bool, true, false, cond, List, [], ◌∷◌, Option, Some, None, drop, map}
use Rattle.std.specs.Option.{option_map}
use Rattle.lp_terms.specs.Term.{Lp}
use Rattle.dk_text.specs.Tokens.{Token, id, type_word, colon, becomes, arrow, fat_arrow, long_arrow, point, comma, open_round, close_round, close_square}
use Rattle.dk_text.specs.Names.{Scope, known}
use Rattle.dk_reader.specs.Pieces.{Piece, shallow, piece_of_two, bracket_piece, applied_piece, word_piece, piece_seen}
use Rattle.dk_reader.specs.declared.stack.Frame.TheVariants as layer
use Rattle.dk_reader.specs.declared.stack.Frame as code
use Rattle.dk_reader.specs.declared.piece.Piece as code_piece
use Rattle.dk_reader.specs.declared.machine.Machine.{Machine}
use Rattle.dk_reader.specs.declared.machine.Step.{Step}
use Rattle.dk_reader.specs.declared.machine.Step.TheVariants as steps

-- what a place stands in, the innermost first
pub data Frame : Type 0 where
  opened : (before : Option Piece) → Frame
  named : (x : List ℕ) → Frame
  to_codomain : (domain : Piece) → Frame
  to_body : (domain : Piece) → Frame

-- where a reader of a term stands
pub record State : Type 0 where
  pub frames : List Frame
  pub head : Option Piece
  pub scope : Scope

-- a piece and the tokens behind it
pub data Read : Type 0 where
  refused : Read
  found : (piece : Piece) (rest : List Token) (scope : Scope) → Read

-- what comes of a token
pub data Outcome : Type 0 where
  on : (state : State) → Outcome
  stop : Outcome
  ended : (piece : Piece) (scope : Scope) → Outcome

-- an opening bracket is read
abbrev pub bracketed : State → Outcome
bracketed s = on (record { frames = opened s.head ∷ s.frames; head = None; scope = s.scope })

-- the whole that a last part ends, up to the innermost bracket or to a name that awaits its arrow
pub record Closed : Type 0 where
  pub frames : List Frame
  pub piece : Piece
  pub scope : Scope

abbrev pub closing : List Frame → Scope → Piece → Closed
closing [] scope p = record { frames = []; piece = p; scope = scope }
closing (opened before ∷ frames) scope p = record { frames = opened before ∷ frames; piece = p; scope = scope }
closing (named x ∷ frames) scope p = record { frames = named x ∷ frames; piece = p; scope = scope }
closing (to_codomain a ∷ frames) scope p = closing frames (drop 1 scope) (piece_of_two Lp.prod a p)
closing (to_body a ∷ frames) scope p = closing frames (drop 1 scope) (piece_of_two Lp.abs a p)

-- an atom is read
abbrev pub put : Piece → State → Outcome
put p s = on (record { frames = s.frames; head = Some (applied_piece s.head p); scope = s.scope })

abbrev pub after_bracket_in : List Frame → Piece → Scope → Outcome
after_bracket_in (opened before ∷ frames) p scope = put (bracket_piece p) (record { frames = frames; head = before; scope = scope })
after_bracket_in [] p scope = stop
after_bracket_in (named x ∷ frames) p scope = stop
after_bracket_in (to_codomain a ∷ frames) p scope = stop
after_bracket_in (to_body a ∷ frames) p scope = stop

-- behind a closing bracket
abbrev pub after_bracket : Closed → Outcome
after_bracket c = after_bracket_in c.frames c.piece c.scope

abbrev pub whole_in : List Frame → Piece → Scope → Outcome
whole_in [] p scope = ended p scope
whole_in (f ∷ frames) p scope = stop

-- at a token that ends a term
abbrev pub whole : Closed → Outcome
whole c = whole_in c.frames c.piece c.scope

-- behind an arrow
abbrev pub after_arrow : List Frame → Scope → Piece → Outcome
after_arrow (named x ∷ frames) scope a = on (record { frames = to_codomain a ∷ frames; head = None; scope = Some x ∷ scope })
after_arrow frames scope a = on (record { frames = to_codomain a ∷ frames; head = None; scope = None ∷ scope })

-- behind a fat arrow
abbrev pub after_fat_arrow : List Frame → Scope → Piece → Outcome
after_fat_arrow (named x ∷ frames) scope a = on (record { frames = to_body a ∷ frames; head = None; scope = Some x ∷ scope })
after_fat_arrow frames scope a = stop

-- behind a name and a colon, where no head was read
abbrev pub after_binder : List Frame → Scope → List ℕ → Outcome
after_binder (named y ∷ frames) scope x = stop
after_binder frames scope x = on (record { frames = named x ∷ frames; head = None; scope = scope })

-- at a token that ends a term, whether a head was read or not
abbrev pub finish : State → Option Piece → Outcome
finish s None = stop
finish s (Some p) = whole (closing s.frames s.scope p)

-- a token that needs a head before it
abbrev pub behind : Token → List Frame → Scope → Piece → Outcome
behind close_round frames scope p = after_bracket (closing frames scope p)
behind arrow frames scope p = after_arrow frames scope p
behind fat_arrow frames scope p = after_fat_arrow frames scope p
behind becomes frames scope p = whole (closing frames scope p)
behind long_arrow frames scope p = whole (closing frames scope p)
behind point frames scope p = whole (closing frames scope p)
behind comma frames scope p = whole (closing frames scope p)
behind close_square frames scope p = whole (closing frames scope p)
behind token frames scope p = stop

abbrev pub behind_head : Token → State → Option Piece → Outcome
behind_head token s None = stop
behind_head token s (Some p) = behind token s.frames s.scope p

-- what comes of one token, where it isn't a name before a colon
abbrev pub step : List (List ℕ) → Token → State → Outcome
step declared (id x left) s = put (word_piece declared s.scope x left) s
step declared type_word s = put (shallow 0 (known Lp.sort)) s
step declared open_round s = bracketed s
step declared token s = behind_head token s s.head

abbrev pub bound : List ℕ → State → Option Piece → Outcome
bound x s None = after_binder s.frames s.scope x
bound x s (Some p) = stop

abbrev pub is_colon : Token → Bool
is_colon colon = true
is_colon token = false

-- the name at the front that a colon follows
abbrev pub binder_name : List Token → Option (List ℕ)
binder_name (id x left ∷ token ∷ tokens) = cond (is_colon token) (Some x) None
binder_name tokens = None

-- what comes of a step, and then of the tokens behind
abbrev pub go_on : (State → Read) → List Token → Outcome → Read
go_on read tokens (on s) = read s
go_on read tokens stop = refused
go_on read tokens (ended p scope) = found p tokens scope

-- the piece that these tokens end
abbrev pub read : List (List ℕ) → List Token → State → Read
read declared [] s = refused
read declared (id x left ∷ colon ∷ tokens) s = go_on (read declared tokens) (id x left ∷ colon ∷ tokens) (bound x s s.head)
read declared (token ∷ tokens) s = go_on (read declared tokens) (token ∷ tokens) (step declared token s)

-- nothing is read yet
abbrev pub fresh : Scope → State
fresh scope = record { frames = []; head = None; scope = scope }

-- the plain frames of the code's values
abbrev pub frame_seen : code.Frame → Frame
frame_seen (layer.Opened before) = opened (option_map piece_seen before)
frame_seen (layer.Named x) = named x.now
frame_seen (layer.ToCodomain a) = to_codomain (piece_seen a)
frame_seen (layer.ToBody a) = to_body (piece_seen a)

abbrev pub state_seen : Machine → Scope → State
state_seen m scope = record { frames = map frame_seen m.frames; head = option_map piece_seen m.head; scope = scope }

abbrev pub outcome_seen : Step → State → Outcome
outcome_seen steps.On s = on s
outcome_seen steps.Refused s = stop

abbrev pub finish_seen : Option code_piece.Piece → Scope → Outcome
finish_seen None scope = stop
finish_seen (Some p) scope = ended (piece_seen p) scope

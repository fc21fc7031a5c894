-- What the tokens of an entry spell.
use Rattle.std.specs.Prelude.{◌≡◌, ℕ, ◌≤◌, Bool, true, false, List, [], ◌∷◌, length, Some}
use Rattle.dk_text.specs.Tokens.{Token, id, colon, def_word, long_arrow, point}
use Rattle.dk_text.specs.Grammar as grammar
use Rattle.dk_text.specs.Grammar.{Raw, IsTerm, Binding, IsContext, RawEntry, IsEntry}
use Rattle.dk_text.specs.Names.{Scope}
use Rattle.dk_reader.specs.Binders.{most_binders}
use Rattle.dk_reader.specs.Pieces.{Piece}
use Rattle.dk_reader.specs.Parts.{Context, context_of, scope_behind, Parts, definition, rewriting, parts_of}
use Rattle.dk_reader.specs.Spelled.{ends_term, SpellsTerm}

-- how many variables the context of an entry has
abbrev pub variables : RawEntry → ℕ
variables (grammar.RawEntry.declaration x f a) = 0
variables (grammar.RawEntry.definition x a b) = 0
variables (grammar.RawEntry.rewriting bs a b) = length bs

-- The tokens spell an entry, and the parts are what is known of it.
pub record SpellsEntry (names : List (List ℕ)) (tokens : List Token) (parts : Parts) : Type 0 where
  pub raw : RawEntry
  pub spelled : IsEntry tokens raw
  pub known : parts ≡ parts_of names raw
  pub few : variables raw ≤ most_binders

abbrev pub SpellsNoEntry : List Token → Type 0
SpellsNoEntry tokens = (raw : RawEntry) → IsEntry tokens raw → ⊥

-- A front of the tokens spells a context with its closing bracket, and the scope is that behind it.
pub record SpellsContext (names : List (List ℕ)) (scope : Scope) (tokens rest : List Token) (context : Context) : Type 0 where
  pub bindings : List Binding
  pub spelled : IsContext tokens rest bindings
  pub known : context ≡ context_of names bindings
  pub scoped : scope ≡ scope_behind [] bindings
  pub few : length bindings ≤ most_binders

abbrev pub SpellsNoContext : List Token → Type 0
SpellsNoContext tokens = (rest : List Token) (bs : List Binding) → IsContext tokens rest bs → ⊥

-- A front of the tokens spells a variable of a context with its type, which leads from one scope to the other.
pub record SpellsBinding (names : List (List ℕ)) (scope inner : Scope) (tokens rest : List Token) (piece : Piece) : Type 0 where
  pub name : List ℕ
  pub left : ℕ
  pub behind : List Token
  pub begins : tokens ≡ id name left ∷ colon ∷ behind
  pub term : SpellsTerm names scope behind rest piece
  pub enters : inner ≡ Some name ∷ scope
  pub few : length inner ≤ most_binders

abbrev pub SpellsNoBinding : List Token → Type 0
SpellsNoBinding tokens = (x : List ℕ) (left : ℕ) (behind rest : List Token) (raw : Raw) → tokens ≡ id x left ∷ colon ∷ behind → IsTerm behind rest raw → ends_term rest ≡ true → ⊥

-- the tokens behind the last term of an entry are its point alone
abbrev pub SpellsNoLast : List Token → Type 0
SpellsNoLast tokens = (raw : Raw) → IsTerm tokens (point ∷ []) raw → ⊥

-- The tokens spell the body of a definition.
pub record SpellsBody (names : List (List ℕ)) (scope : Scope) (tokens : List Token) (name : List ℕ) (type : Piece) (parts : Parts) : Type 0 where
  pub body : Piece
  pub term : SpellsTerm names scope tokens (point ∷ []) body
  pub known : parts ≡ definition name type body

-- The tokens spell the right side of a rule.
pub record SpellsRight (names : List (List ℕ)) (scope : Scope) (tokens : List Token) (context : Context) (left : Piece) (parts : Parts) : Type 0 where
  pub right : Piece
  pub term : SpellsTerm names scope tokens (point ∷ []) right
  pub known : parts ≡ rewriting context left right

-- The tokens spell both sides of a rule.
pub record SpellsSides (names : List (List ℕ)) (scope : Scope) (tokens : List Token) (context : Context) (parts : Parts) : Type 0 where
  pub middle : List Token
  pub left : Piece
  pub right : Piece
  pub first : SpellsTerm names scope tokens (long_arrow ∷ middle) left
  pub second : SpellsTerm names scope middle (point ∷ []) right
  pub known : parts ≡ rewriting context left right

abbrev pub SpellsNoSides : List Token → Type 0
SpellsNoSides tokens = (middle : List Token) (a b : Raw) → IsTerm tokens (long_arrow ∷ middle) a → IsTerm middle (point ∷ []) b → ⊥

-- a declared name and what stands behind its colon
abbrev pub typed : Bool → List ℕ → ℕ → List Token → List Token
typed true x left tokens = def_word ∷ id x left ∷ colon ∷ tokens
typed false x left tokens = id x left ∷ colon ∷ tokens

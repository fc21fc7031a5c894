-- What the tokens of one term spell.
use Rattle.std.specs.Prelude.{◌≡◌, ℕ, Bool, true, false, List, ◌∷◌}
use Rattle.dk_text.specs.Tokens.{Token, becomes, long_arrow, point, comma, close_square}
use Rattle.dk_text.specs.Grammar.{Raw, IsTerm}
use Rattle.dk_text.specs.Names.{Scope}
use Rattle.dk_reader.specs.Pieces.{Piece, piece_of}

-- an entry has these tokens behind one of its terms
abbrev pub ends_term : List Token → Bool
ends_term (becomes ∷ tokens) = true
ends_term (long_arrow ∷ tokens) = true
ends_term (point ∷ tokens) = true
ends_term (comma ∷ tokens) = true
ends_term (close_square ∷ tokens) = true
ends_term tokens = false

-- A front of the tokens spells a term, the rest follows it and ends it, and the piece is what is known of the term.
pub record SpellsTerm (declared : List (List ℕ)) (scope : Scope) (tokens rest : List Token) (piece : Piece) : Type 0 where
  pub raw : Raw
  pub spelled : IsTerm tokens rest raw
  pub ended : ends_term rest ≡ true
  pub known : piece ≡ piece_of declared scope raw

-- no front of the tokens spells a term that the rest ends
abbrev pub SpellsNoTerm : List Token → Type 0
SpellsNoTerm tokens = (rest : List Token) (raw : Raw) → IsTerm tokens rest raw → ends_term rest ≡ true → ⊥

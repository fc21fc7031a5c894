-- What is known of a term that is read: its nesting, and what its names stand for.
use Rattle.std.specs.Prelude.{ℕ, suc, max, nat_lt, cond, List, Option, Some, None}
use Rattle.lp_terms.specs.Term.{Lp}
use Rattle.lp_terms.specs.View.{term_of}
use Rattle.dk_text.specs.Grammar.{Raw}
use Rattle.dk_text.specs.Names.{Scope, Resolved, known, unknown, and_then, resolved, resolved_word, index_of}
use Rattle.dk_text.specs.Refusals.{nesting}
use Rattle.dk_reader.specs.declared.piece.Value.{Value}
use Rattle.dk_reader.specs.declared.piece.Value.TheVariants as values
use Rattle.dk_reader.specs.declared.piece.Piece.TheVariants as pieces
use Rattle.dk_reader.specs.declared.piece.Piece as code
use Rattle.dk_reader.specs.declared.piece.Node.{Node}
use Rattle.dk_reader.specs.declared.piece.Node.TheVariants as nodes

-- Nothing is known of a term that nests too deep.
pub data Piece : Type 0 where
  deep : Piece
  shallow : (depth : ℕ) (value : Resolved Lp) → Piece

abbrev pub piece_at : ℕ → Resolved Lp → Piece
piece_at depth value = cond (nat_lt 8000 depth) deep (shallow depth value)

-- the piece of a term as it is written
abbrev pub piece_of : List (List ℕ) → Scope → Raw → Piece
piece_of declared scope raw = piece_at (nesting raw) (resolved declared scope raw)

-- what is made of two values
abbrev pub value_of_two : (Lp → Lp → Lp) → Resolved Lp → Resolved Lp → Resolved Lp
value_of_two make v w = and_then v (λ c. and_then w (λ d. known (make c d)))

-- what is made of two pieces
abbrev pub piece_of_two : (Lp → Lp → Lp) → Piece → Piece → Piece
piece_of_two make deep q = deep
piece_of_two make (shallow d v) deep = deep
piece_of_two make (shallow d v) (shallow e w) = piece_at (suc (max d e)) (value_of_two make v w)

-- a piece in brackets
abbrev pub bracket_piece : Piece → Piece
bracket_piece deep = deep
bracket_piece (shallow d v) = piece_at (suc d) v

-- a piece applied to what stands before it, if anything does
abbrev pub applied_piece : Option Piece → Piece → Piece
applied_piece None p = p
applied_piece (Some f) p = piece_of_two Lp.app f p

-- the piece of an identifier
abbrev pub word_piece : List (List ℕ) → Scope → List ℕ → ℕ → Piece
word_piece declared scope name left = shallow 0 (resolved_word declared (index_of name scope) name left)

-- the plain pieces of the code's values
abbrev pub value_seen : Value → Resolved Lp
value_seen (values.Known t) = known (term_of t)
value_seen (values.Unknown left) = unknown left

abbrev pub piece_seen : code.Piece → Piece
piece_seen pieces.Deep = deep
piece_seen (pieces.Shallow d v) = shallow d (value_seen v)

abbrev pub make_of : Node → Lp → Lp → Lp
make_of nodes.Application = Lp.app
make_of nodes.Abstraction = Lp.abs
make_of nodes.Product = Lp.prod

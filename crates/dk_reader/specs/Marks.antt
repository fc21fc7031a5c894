-- The tokens that stand before, between or behind the parts of an entry.
use Rattle.std.specs.Prelude.{Option, Some, None}
use Rattle.dk_text.specs.Tokens.{Token, def_word, colon, becomes, long_arrow, point, comma, open_square, close_square}
use Rattle.dk_reader.specs.declared.mark.Mark.{Mark}
use Rattle.dk_reader.specs.declared.mark.Mark.TheVariants as marks

abbrev pub mark_seen : Mark → Token
mark_seen marks.Def = def_word
mark_seen marks.Colon = colon
mark_seen marks.Becomes = becomes
mark_seen marks.LongArrow = long_arrow
mark_seen marks.Point = point
mark_seen marks.Comma = comma
mark_seen marks.OpenSquare = open_square
mark_seen marks.CloseSquare = close_square

-- the mark that a token is
abbrev pub mark_at : Token → Option Mark
mark_at def_word = Some marks.Def
mark_at colon = Some marks.Colon
mark_at becomes = Some marks.Becomes
mark_at long_arrow = Some marks.LongArrow
mark_at point = Some marks.Point
mark_at comma = Some marks.Comma
mark_at open_square = Some marks.OpenSquare
mark_at close_square = Some marks.CloseSquare
mark_at token = None

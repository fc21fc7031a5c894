-- The tokens that the code's values are.
use Rattle.std.specs.Prelude.{Option, Some, None}
use Rattle.dk_reader.specs.declared.token.Token.{Token}
use Rattle.dk_reader.specs.declared.token.Token.TheVariants as layer
use Rattle.dk_reader.specs.declared.token.LeftOut.{LeftOut}
use Rattle.dk_reader.specs.declared.token.LeftOut.TheVariants as forms
use Rattle.dk_reader.specs.declared.token.Front.{Front}
use Rattle.dk_text.specs.Tokens as plain

-- what is left out
abbrev pub form_of : LeftOut → plain.Foreign
form_of forms.Command = plain.Foreign.command
form_of forms.Quoted = plain.Foreign.quoted
form_of forms.Pattern = plain.Foreign.pattern

-- the token
abbrev pub seen : Token → plain.Token
seen (layer.Name text left) = plain.Token.id text.now left
seen layer.Type = plain.Token.type_word
seen layer.Def = plain.Token.def_word
seen layer.Colon = plain.Token.colon
seen layer.Becomes = plain.Token.becomes
seen layer.Arrow = plain.Token.arrow
seen layer.FatArrow = plain.Token.fat_arrow
seen layer.LongArrow = plain.Token.long_arrow
seen layer.Point = plain.Token.point
seen layer.Comma = plain.Token.comma
seen layer.OpenRound = plain.Token.open_round
seen layer.CloseRound = plain.Token.close_round
seen layer.OpenSquare = plain.Token.open_square
seen layer.CloseSquare = plain.Token.close_square
seen (layer.LeftOut form left) = plain.Token.foreign (form_of form) left

-- the token at the front of a text, if one begins there
abbrev pub front_of : Option Front → plain.Front
front_of None = plain.Front.nothing
front_of (Some f) = plain.Front.found (seen f.token) f.rest.now

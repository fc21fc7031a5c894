-- A slow reader of words and of the names of statements.
use Rattle.std.specs.Prelude.{List, [], ◌∷◌, Option, Some, None}
use Rattle.tptp_reader.specs.Raw.{Name}
use Rattle.tptp_reader.specs.Tokens.{Token}
use Rattle.tptp_reader.specs.Grammar.{word_of, name_of}
use Rattle.tptp_reader.specs.Parsing.{then}

abbrev pub word_in : List Token → Option (Name × List Token)
word_in [] = None
word_in (t ∷ tokens) = then (word_of t) (λ f. Some (f, tokens))

abbrev pub name_in : List Token → Option (Name × List Token)
name_in [] = None
name_in (t ∷ tokens) = then (name_of t) (λ f. Some (f, tokens))

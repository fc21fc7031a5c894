-- Tokens whose names are identifiers.
use Rattle.std.specs.Prelude.{List, [], ◌∷◌}
use Rattle.lp_terms.specs.Names.{IsIdentifier}
use Rattle.dk_text.specs.Tokens.{Token, id}

abbrev pub IsProper : Token → Type 0
IsProper (id text left) = IsIdentifier text
IsProper token = Unit {0}

abbrev pub AreProper : List Token → Type 0
AreProper [] = Unit {0}
AreProper (token ∷ tokens) = IsProper token × AreProper tokens

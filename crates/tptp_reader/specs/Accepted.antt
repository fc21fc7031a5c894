-- What the parser of statements accepts.
use Rattle.std.specs.Prelude.{◌<◌, ◌≤◌, List}
use Rattle.tptp_reader.specs.declared.parse.Parsed.{Parsed}
use Rattle.tptp_reader.specs.declared.parse.Parsed.TheVariants.{Body, TooDeep}
use Rattle.tptp_reader.specs.Answers.{formula_depth}
use Rattle.tptp_reader.specs.Grammar.{IsStatement}
use Rattle.tptp_reader.specs.Limits.{IsWithinLimits}
use Rattle.tptp_reader.specs.Raw.{RawStatement}
use Rattle.tptp_reader.specs.Tokens.{Token}
use Rattle.tptp_reader.specs.View.{body_tree}

-- The tokens spell a statement whose formula is more than 1000 deep.
pub record IsDeeper (tokens : List Token) : Type 0 where
  pub statement : RawStatement
  pub spelled : IsStatement tokens statement
  pub deep : 1000 < formula_depth statement

-- A body is accepted that the tokens spell, within the limits; or they spell a statement that is too deep.
abbrev pub Accepts : List Token → Parsed → Type 0
Accepts tokens (Body b) = IsStatement tokens (body_tree b) × ((formula_depth (body_tree b) ≤ 1000) × IsWithinLimits (body_tree b))
Accepts tokens TooDeep = IsDeeper tokens

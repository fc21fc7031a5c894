use Rattle.std.proofs.Common.{◌≡◌, [], ◌∷◌, length}
use Rattle.std.specs.Prelude.{map}
use Rattle.tptp_reader.specs.Brackets.{Bracket, behind_closing}
use Rattle.tptp_reader.specs.Parsing.{seen}
use Rattle.tptp_reader.proofs.brackets.behind_closing.Given as goal

-- what follows the closing bracket of the rest follows that of all tokens
abbrev pub invariant-loop-rest : goal.invariant-loop-rest
invariant-loop-rest l = behind_closing l.brackets (map seen l.rest) ≡ behind_closing (Bracket.round ∷ []) (map seen l.lexemes)

abbrev pub decreases-loop-rest : goal.decreases-loop-rest
decreases-loop-rest l = length l.rest

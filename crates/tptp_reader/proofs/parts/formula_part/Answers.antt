use Rattle.tptp_reader.proofs.Counting.{part_front}
use Rattle.tptp_reader.proofs.parts.formula_part.Goals as goal

pub returns-clause-value : goal.returns-clause-value
returns-clause-value c = part_front _ _ _ _ c.to_comma.ensures.value c.tokens_from-rest.ensures.value c.requires

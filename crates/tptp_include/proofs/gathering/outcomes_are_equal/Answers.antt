use Rattle.tptp_include.proofs.Unique.{outcomes_equal}
use Rattle.tptp_include.proofs.gathering.outcomes_are_equal.Goals as goal

pub returns : goal.returns
returns c = outcomes_equal c.answers_are_equal.ensures

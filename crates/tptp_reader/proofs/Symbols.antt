-- The lemmas that the functions of symbols cite.
use Rattle.tptp_reader.proofs.Behind.{behind_taken, behind_none}
use Rattle.tptp_reader.proofs.TermSteps.{arguments_full, arguments_step}

pub ruleset symbol_steps = (behind_taken, behind_none, arguments_full, arguments_step)

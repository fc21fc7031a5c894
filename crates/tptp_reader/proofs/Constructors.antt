-- The lemmas that the functions of type constructors cite.
use Rattle.tptp_reader.proofs.Behind.{behind_taken, behind_none}
use Rattle.tptp_reader.proofs.TypeSteps.{type_arguments_full, type_arguments_step}

pub ruleset constructor_steps = (behind_taken, behind_none, type_arguments_full, type_arguments_step)

use Rattle.tptp_reader.proofs.Awaited.{lower_moves, some_takes}
use Rattle.tptp_reader.proofs.wide.Front.take_lower.Goals as goal

pub returns-in-Some : goal.returns-in-Some
returns-in-Some c = lower_moves c.is_lower.result _ _ _ (some_takes _ _ _ _ c.in-Some.is c.in_ok-lexeme.ensures.takes) c.is_lower.ensures

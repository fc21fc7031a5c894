use Rattle.tptp_reader.proofs.Awaited.{one_taken, some_takes}
use Rattle.tptp_reader.proofs.wide.Front.take.Goals as goal

pub returns-in-Some-clause-no : goal.returns-in-Some-clause-no
returns-in-Some-clause-no c r after takes = c.is_sign.ensures.no r (one_taken _ _ _ _ _ (some_takes _ _ _ _ c.in-Some.is c.in_ok-lexeme.ensures.takes) takes)

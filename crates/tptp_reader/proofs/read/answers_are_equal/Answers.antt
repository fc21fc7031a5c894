use Rattle.tptp_reader.proofs.OneAnswer.{one_answer}
use Rattle.tptp_reader.proofs.StatementComplete.{one_statement}
use Rattle.tptp_reader.proofs.read.answers_are_equal.Goals as goal

pub returns : goal.returns
returns c = one_answer one_statement

use Rattle.std.proofs.Common.{rules}
use Rattle.tptp_reader.proofs.Counting.{front_from}
use Rattle.tptp_reader.proofs.parts.tokens_from.Goals as goal

pub returns-clause-value : goal.returns-clause-value
returns-clause-value c = front_from c.min.result _ c.args.lexemes.now (search rules)

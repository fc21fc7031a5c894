use Rattle.tptp_reader.proofs.Few.{few_lexemes}
use Rattle.tptp_reader.proofs.nesting.nested_part.Goals as goal

pub returns-then-lexemes-clause-value : goal.returns-then-lexemes-clause-value
returns-then-lexemes-clause-value c = few_lexemes c.args.lexemes.now c.if-lexemes.true

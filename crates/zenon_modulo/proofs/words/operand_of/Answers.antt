use Rattle.std.proofs.Common.{rules}
use Rattle.zenon_modulo.proofs.Commands.{source_is, file_is}
use Rattle.zenon_modulo.proofs.words.operand_of.Goals as goal

pub returns-then-eq : goal.returns-then-eq
returns-then-eq c = source_is c.args.word.now (search rules)

pub returns : goal.returns
returns c = file_is c.args.word.now _ (search rules) (search rules)

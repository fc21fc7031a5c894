use Rattle.std.proofs.Common.{rules, map, string_bytes}
use Rattle.zenon_modulo.proofs.Commands.{bad_operand_is, bad_options_are, command_is}
use Rattle.zenon_modulo.specs.WordsRead.{operand_tree}
use Rattle.zenon_modulo.proofs.words.read_operand.Goals as goal

pub returns-in-None-clause-misuse : goal.returns-in-None-clause-misuse
returns-in-None-clause-misuse c = bad_operand_is c.args.mode.now (string_bytes c.args.word.now) _ (map string_bytes c.args.options.now) c.requires (search rules) (search rules)

pub returns-in-Ok-clause-command : goal.returns-in-Ok-clause-command
returns-in-Ok-clause-command c = command_is c.args.mode.now (string_bytes c.args.word.now) (map string_bytes c.args.options.now) _ _ c.requires (search rules) (search rules)

pub returns-in-Err-BadOptions-clause-misuse : goal.returns-in-Err-BadOptions-clause-misuse
returns-in-Err-BadOptions-clause-misuse c = bad_options_are c.args.mode.now (string_bytes c.args.word.now) (map string_bytes c.args.options.now) (operand_tree c.in-Some.operand) c.requires (search rules) (search rules)

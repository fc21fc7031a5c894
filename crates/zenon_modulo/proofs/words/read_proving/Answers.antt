use Rattle.std.proofs.Common.{rules, string_bytes}
use Rattle.zenon_modulo.proofs.Commands.{no_operand_is}
use Rattle.zenon_modulo.proofs.words.read_proving.Goals as goal

pub returns-in_ok-mode-in-empty-clause-misuse : goal.returns-in_ok-mode-in-empty-clause-misuse
returns-in_ok-mode-in-empty-clause-misuse c =
    no_operand_is string_bytes c.args.mode.now c.in_ok-mode-in-empty.mode c.args.more.now c.requires c.in-empty.len_below (search rules)

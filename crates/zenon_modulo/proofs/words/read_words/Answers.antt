use Rattle.std.proofs.Common.{rules, string_bytes}
use Rattle.zenon_modulo.proofs.Commands.{no_mode_is, unknown_mode_is}
use Rattle.zenon_modulo.proofs.words.read_words.Goals as goal

pub returns-then-not-is_word-clause-misuse : goal.returns-then-not-is_word-clause-misuse
returns-then-not-is_word-clause-misuse c =
    unknown_mode_is string_bytes c.args.words.now c.mode-item.result c.in_ok-word-in-len1-up.word c.in-len1-up.len_at_least
    c.mode-item.is (search rules) (search rules)

pub returns-in-empty-clause-misuse : goal.returns-in-empty-clause-misuse
returns-in-empty-clause-misuse c = no_mode_is string_bytes c.args.words.now c.in-empty.len_below

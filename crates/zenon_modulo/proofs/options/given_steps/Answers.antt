use Rattle.std.proofs.Common.{◌∙◌, map, string_bytes}
use Rattle.zenon_modulo.proofs.ClapOptions.{taken_is, text_is}
use Rattle.zenon_modulo.proofs.options.given_steps.Goals as goal

pub returns-in-Ok-clause-taken : goal.returns-in-Ok-clause-taken
returns-in-Ok-clause-taken c = taken_is _ (map string_bytes c.args.options.now) c.in_ok-command.ensures c.in-Ok.ensures.kinds

pub returns-in-Ok-clause-text : goal.returns-in-Ok-clause-text
returns-in-Ok-clause-text c = c.get_str.ensures ∙ text_is _ (map string_bytes c.args.options.now) c.in-Ok.matches c.in_ok-command.ensures c.in-Ok.ensures.matches

use Rattle.std.proofs.Common.{rules, ◌++◌, ap, sym, ◌∙◌}
use Rattle.std.proofs.lemmas.List.{append-nil}
use Rattle.zenon_modulo.proofs.Printed.{nth_beyond}
use Rattle.zenon_modulo.proofs.names.push_nth.Goals as goal

pub returns-then-place-symbols : goal.returns-then-place-symbols
returns-then-place-symbols c =
    sym (append-nil c.args.text.now.items) ∙ ap (λ t. c.args.text.now.items ++ t) (sym (nth_beyond c.args.symbols.now c.args.place (search rules)))

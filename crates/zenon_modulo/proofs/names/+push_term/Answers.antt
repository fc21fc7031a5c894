use Rattle.std.proofs.Common.{rules, map, ◌++◌, ap, ◌∙◌}
use Rattle.zenon_modulo.specs.Names.{mark_text}
use Rattle.zenon_modulo.proofs.Printed.{terms_step}
use Rattle.zenon_modulo.proofs.names.+push_term.Goals as goal

pub push_terms-loop-i-preserved : goal.push_terms-loop-i-preserved
push_terms-loop-i-preserved t c =
    terms_step (map (λ s. s.name) c.args.symbols.now) c.args.is_first c.args.text.now.items c.loop-i.text.items c.push_mark.new.text.items c.push_term.new.text.items
    c.args.terms.now c.loop-i.i c.term-item.result (search rules) c.loop-i.invariant
    (c.in_ok-push_mark.ensures ∙ ap (λ b. c.loop-i.text.items ++ mark_text b) c.is_first_at.ensures) (search rules)

use Rattle.std.proofs.Common.{length, refl, rules, sym}
use Rattle.std.proofs.lemmas.List.{length-map}
use Rattle.lp_terms.specs.View.{term_of, terms_of}
use Rattle.dk_printer.proofs.Joined.{joined, stopped}
use Rattle.dk_printer.proofs.Texts.{rule_text, rule_pieces}
use Rattle.dk_printer.proofs.file.print_rule.Goals as goal

pub returns-in_err-print_context : goal.returns-in_err-print_context
returns-in_err-print_context g c =
    let xs = c.args.context.now in
    stopped _ _ c.print_context.ensures (search rules) (search rules)
    (rule_text (terms_of xs) (term_of c.args.left.now) (term_of c.args.right.now) (length xs) (sym (length-map xs term_of)))

pub returns-in_err-print_ended : goal.returns-in_err-print_ended
returns-in_err-print_ended g c =
    let xs = c.args.context.now in
    stopped _ _ (joined _ c.print_context.ensures (search rules) c.print_ended.ensures refl) (search rules) (search rules)
    (rule_pieces (terms_of xs) (term_of c.args.left.now) (term_of c.args.right.now) (length xs) (sym (length-map xs term_of)))

pub returns : goal.returns
returns g c =
    let xs = c.args.context.now in
    joined _ (joined _ c.print_context.ensures (search rules) c.print_ended.ensures refl) (search rules) c.print_ended-2.ensures
    (rule_pieces (terms_of xs) (term_of c.args.left.now) (term_of c.args.right.now) (length xs) (sym (length-map xs term_of)))

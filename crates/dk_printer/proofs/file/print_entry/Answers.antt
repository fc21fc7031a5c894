use Rattle.std.proofs.Common.{sym, ◌∙◌, ap}
use Rattle.lp_terms.specs.Signature as signature
use Rattle.lp_terms.specs.View.{term_of, terms_of, entry_of}
use Rattle.dk_text.specs.Text.{entry_text}
use Rattle.dk_printer.proofs.Joined.{retold}
use Rattle.dk_printer.proofs.file.print_entry.Goals as goal

pub returns-in-Declare : goal.returns-in-Declare
returns-in-Declare g c = retold _ c.print_declaration.ensures (ap (λ e. entry_text (entry_of e)) c.in-Declare.is)

pub returns-in-Define : goal.returns-in-Define
returns-in-Define g c = retold _ c.print_definition.ensures (ap (λ e. entry_text (entry_of e)) c.in-Define.is)

pub returns-in-Rule : goal.returns-in-Rule
returns-in-Rule g c =
    let left = term_of c.in-Rule.left in
    let right = term_of c.in-Rule.right in
    retold _ c.print_rule.ensures
    (ap (λ e. entry_text (entry_of e)) c.in-Rule.is
    ∙ ap (λ xs. entry_text (signature.Entry.rule (terms_of xs) left right)) (sym c.as_slice.ensures))

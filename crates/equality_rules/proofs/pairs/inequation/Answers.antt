use Rattle.std.proofs.Common.{sym, ap, ◌∙◌}
use Rattle.zm_logic.specs.Tree.{Form}
use Rattle.term_store.specs.Trees.{form_of, type_of, form_node}
use Rattle.equality_rules.proofs.Answering.{denied_some}
use Rattle.equality_rules.proofs.pairs.inequation.Goals as goal

pub returns-in-Equal-clause-some : goal.returns-in-Equal-clause-some
returns-in-Equal-clause-some c =
    let s = c.args.store.now in
    let inside = sym c.form_node.ensures.tree ∙ ap (form_node s) c.in-Equal.is in (
      type_of s c.in-Equal.field-0,
      denied_some (form_of s c.args.form) (form_of s c.in_ok-denied.field-0) c.in_ok-denied.ensures.value ∙ ap Form.negation inside,
    )

use Rattle.std.proofs.Common.{◌≡◌, IfOk, ap, sym, ◌∙◌, subst, arith}
use Rattle.zm_logic.specs.Tree as tree
use Rattle.zm_logic.specs.View.{term_tree}
use Rattle.rule_index.specs.Instance.{lift_term}
use Rattle.rule_index.proofs.PartLists.{term_bound, term_part_past, part_is_term, part_is_no_term}
use Rattle.rule_index.proofs.putting.term_part.Goals as goal

pub returns-then-after-parts : goal.returns-then-after-parts
returns-then-after-parts c =
    term_bound c.in_ok-raised.field-0 ∙ ap tree.Term.bound c.in_ok-raised.ensures
    ∙ sym (ap (lift_term c.args.under) (term_part_past c.args.parts.now c.args.index c.if-after-parts.true))

pub returns-in-OfTerm : goal.returns-in-OfTerm
returns-in-OfTerm c =
    subst (λ x. IfOk c.lift_term.result (λ y. term_tree y ≡ x))
    (part_is_term c.args.parts.now c.args.index c.args.under c.in-OfTerm.u c.index-parts-parts.result (omega (arith, c.if-after-parts.false)) c.index-parts-parts.is c.in-OfTerm.is)
    c.lift_term.ensures

pub returns-in_ok-raised-in-OfType : goal.returns-in_ok-raised-in-OfType
returns-in_ok-raised-in-OfType c =
    term_bound c.in_ok-raised-in-OfType.field-0 ∙ ap tree.Term.bound c.in_ok-raised-in-OfType.ensures
    ∙ part_is_no_term c.args.parts.now c.args.index c.args.under c.in-OfType.field-0 c.index-parts-parts.result (omega (arith, c.if-after-parts.false)) c.index-parts-parts.is c.in-OfType.is

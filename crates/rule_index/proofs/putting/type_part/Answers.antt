use Rattle.std.proofs.Common.{◌≡◌, IfOk, ap, sym, ◌∙◌, subst, arith}
use Rattle.zm_logic.specs.Tree as tree
use Rattle.zm_logic.specs.View.{type_tree}
use Rattle.rule_index.specs.Instance.{lift_type}
use Rattle.rule_index.proofs.PartLists.{type_bound, type_part_past, part_is_type, part_is_no_type}
use Rattle.rule_index.proofs.putting.type_part.Goals as goal

pub returns-then-after-parts : goal.returns-then-after-parts
returns-then-after-parts c =
    type_bound c.in_ok-raised.field-0 ∙ ap tree.Ty.bound c.in_ok-raised.ensures
    ∙ sym (ap (lift_type c.args.under) (type_part_past c.args.parts.now c.args.index c.if-after-parts.true))

pub returns-in-OfType : goal.returns-in-OfType
returns-in-OfType c =
    subst (λ x. IfOk c.lift_type.result (λ y. type_tree y ≡ x))
    (part_is_type c.args.parts.now c.args.index c.args.under c.in-OfType.t c.index-parts-parts.result (omega (arith, c.if-after-parts.false)) c.index-parts-parts.is c.in-OfType.is)
    c.lift_type.ensures

pub returns-in_ok-raised-in-OfTerm : goal.returns-in_ok-raised-in-OfTerm
returns-in_ok-raised-in-OfTerm c =
    type_bound c.in_ok-raised-in-OfTerm.field-0 ∙ ap tree.Ty.bound c.in_ok-raised-in-OfTerm.ensures
    ∙ part_is_no_type c.args.parts.now c.args.index c.args.under c.in-OfTerm.field-0 c.index-parts-parts.result (omega (arith, c.if-after-parts.false)) c.index-parts-parts.is c.in-OfTerm.is

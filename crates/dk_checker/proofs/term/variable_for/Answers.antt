use Rattle.std.proofs.Common.{◌-◌, inl, inr, refl, sym, ◌∙◌, arith}
use Rattle.lp_reduce.proofs.Layers.{free_is, index_is}
use Rattle.dk_checker.proofs.Variables.{variable_within, variable_past}
use Rattle.dk_checker.proofs.term.variable_for.Goals.{else-back-inner-via-then-back-inner+else-back-depth, else-back-inner-via-else-back-inner}
use Rattle.dk_checker.proofs.term.variable_for.Goals as goal

pub returns-then-back-depth : goal.returns-then-back-depth
returns-then-back-depth c =
    free_is (c.args.depth - (c.args.i - c.args.at) - 1)
    ∙ sym (variable_within c.args.depth c.args.inner c.args.at c.args.i (c.args.i - c.args.at) (omega (arith, c.if-i-at.false)) refl
    (omega (arith, c.if-back-inner.true)) (omega (arith, c.if-back-depth.true)))

pub returns-else-back-inner : goal.returns-else-back-inner
returns-else-back-inner c =
    index_is c.args.i
    ∙ sym (variable_past c.args.depth c.args.inner c.args.at c.args.i (c.args.i - c.args.at) (omega (arith, c.if-i-at.false)) refl
    (elim c.else-back-inner.branch [
      | else-back-inner-via-then-back-inner+else-back-depth w ↦ inr (omega (arith, w.if-back-depth.false))
      | else-back-inner-via-else-back-inner w ↦ inl (omega (arith, w.if-back-inner.false))
    ]))

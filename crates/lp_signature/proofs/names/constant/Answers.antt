use Rattle.std.proofs.Common.{◌≡◌, ◌-◌, IfOk, subst, sym, arith}
use Rattle.lp_signature.proofs.Coded.{constant_found, constant_lost}
use Rattle.lp_signature.proofs.names.constant.Goals as goal

pub returns-in-Some : goal.returns-in-Some
returns-in-Some c =
    subst (λ x. IfOk c.symbol_name.result (λ t. t ≡ x))
    (sym (constant_found c.args.symbols.now c.args.number.0 (c.args.number.0 - 1) c.in-Some.symbol.now (omega (arith, c.if-number-eq0.false)) (sym c.in-Some.ensures)))
    c.symbol_name.ensures.value

pub returns-in-None : goal.returns-in-None
returns-in-None c =
    subst (λ x. IfOk c.of-in-None.result (λ t. t ≡ x))
    (sym (constant_lost c.args.symbols.now c.args.number.0 (c.args.number.0 - 1) (omega (arith, c.if-number-eq0.false)) (sym c.in-None.ensures)))
    c.of-in-None.ensures

use Rattle.std.proofs.Common.{suc, Some, None, ◌≡◌, ap, ◌∙◌, arith}
use Rattle.lp_terms.specs.View.{term_of, entries_of}
use Rattle.lp_reduce.proofs.Bodies.{body_steps}
use Rattle.lp_reduce.proofs.step.+step.Goals as goal

pub body_step-returns-in-Some-2 : goal.body_step-returns-in-Some-2
body_step-returns-in-Some-2 t c =
    ap Some c.in_ok-close-in-Some-2.ensures.value
    ∙ body_steps (entries_of c.args.signature.now) c.args.number c.in-Some.above (term_of c.args.body.now) (term_of c.in_ok-term-in-Some.term) (Some (term_of c.in-Some-2.u))
    (omega (arith, c.in-Some.ensures)) c.in_ok-term-in-Some.ensures (rw c.in-Some-2.is at c.in_ok-u-in-Some.ensures)

pub body_step-returns-in-Some : goal.body_step-returns-in-Some
body_step-returns-in-Some t c =
    body_steps (entries_of c.args.signature.now) c.args.number c.in-Some.above (term_of c.args.body.now) (term_of c.in_ok-term-in-Some.term) None
    (omega (arith, c.in-Some.ensures)) c.in_ok-term-in-Some.ensures (rw c.in-None-2.is at c.in_ok-u-in-Some.ensures)

use Rattle.std.proofs.Common.{ap, ◌∙◌}
use Rattle.lp_terms.specs.View.{term_of}
use Rattle.lp_terms.specs.Reduction.{instance_at}
use Rattle.dk_checker.specs.View.{variables}
use Rattle.dk_checker.proofs.Variables.{with_variables}
use Rattle.dk_checker.proofs.infer.with_context.Goals as goal

pub returns-clause-ok : goal.returns-clause-ok
returns-clause-ok c =
    c.in_ok-domain.ensures
    ∙ with_variables c.in_ok-number.number c.args.inner (term_of c.args.a.now)
    ∙ ap (λ d. instance_at 0 (variables d c.args.inner) (term_of c.args.a.now)) c.in_ok-number.ensures.many

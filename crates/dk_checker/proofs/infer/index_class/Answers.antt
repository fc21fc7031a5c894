use Rattle.std.proofs.Common.{ap, sym, ◌∙◌}
use Rattle.lp_terms.specs.Term as plain
use Rattle.lp_terms.specs.View.{term_of}
use Rattle.lp_terms.specs.Reduction.{instance_at}
use Rattle.dk_checker.specs.Asking.{of_variable}
use Rattle.dk_checker.specs.View.{class_of, context_of, variables}
use Rattle.dk_checker.proofs.Variables.{with_variables}
use Rattle.dk_checker.proofs.Told.{tells_of}
use Rattle.dk_checker.proofs.infer.index_class.Goals as goal

pub returns : goal.returns
returns c =
    let e =
    c.variable_for-variable.ensures
    ∙ with_variables c.in_ok-depth.depth c.args.inner (plain.Lp.index c.args.i)
    ∙ ap (λ d. instance_at 0 (variables d c.args.inner) (plain.Lp.index c.args.i)) c.in_ok-depth.ensures.many in
    tells_of class_of _ (of_variable (context_of c.args.types.now) (term_of c.variable_for-variable.result)) c.class_of_variable.result (ap (of_variable (context_of c.args.types.now)) (sym e)) c.class_of_variable.ensures

-- The laws.
use Rattle.std.proofs.Common.{ℕ, ◌≡◌, List, [], Option, Some, None, IfSome, subst, sym, arith}
use Rattle.lp_terms.specs.Term.{Lp}
use Rattle.lp_terms.specs.Signature.{Entry}
use Rattle.lp_reduce.specs.Step.{next_step}
use Rattle.lp_reduce.specs.Normal.{Normal, normal}
use Rattle.lp_reduce.specs.Laws.{StepsAreReductions, NormalFormsConvert, NormalFormsAreReached, NoneIsMoreSteps}
use Rattle.lp_reduce.proofs.Scoped.{signature_no_free}
use Rattle.lp_reduce.proofs.Steps.{Goes, Reaches, next_goes, normal_reaches}
use Rattle.lp_reduce.proofs.Counted.{Outcome, normal_outcome, spent_exactly}

pub steps_are_reductions : StepsAreReductions
steps_are_reductions sigma n t u w s e =
    (subst (λ o. IfSome o (Goes sigma (signature_no_free sigma w) w n t)) e (next_goes sigma (signature_no_free sigma w) w n [] t s)).0

pub normal_forms_convert : NormalFormsConvert
normal_forms_convert sigma n limit t m w s e =
    (subst (λ o. IfSome o (λ r. Reaches sigma (signature_no_free sigma w) w n t r.form)) e (normal_reaches sigma (signature_no_free sigma w) w n limit t s)).0

pub normal_forms_are_reached : NormalFormsAreReached
normal_forms_are_reached sigma n limit t m e = subst (λ o. Outcome sigma n limit t o) e (normal_outcome sigma n limit t)

pub none_is_more_steps : NoneIsMoreSteps
none_is_more_steps sigma n limit t = spent_exactly sigma n limit t
